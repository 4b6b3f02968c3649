use Rattle.std.proofs.Common.{subst, ◌∙◌}
use Rattle.std.proofs.lemmas.Int.{to_z-of_z}
use Rattle.std.specs.Int.{w32}
use Rattle.rustc_apfloat.specs.{Datum.Datum, Flags.bits_of, Types.format_of}
use Rattle.p3109_formats.specs.ModeConversions.{IsIntoProjectionBy}
use Rattle.coded_calls.proofs.p3109.ProjectingInFormat.in_format.Goals as goal

pub returns : goal.returns
returns g c =
    let it = c.args.self in
    let made = c.project-made.result in
    let told = to_z-of_z w32 c.one_if.result (record { sfits = c.one_if.type_inv }) in
    record {
      code = made.value;
      status = bits_of made.status;
      loses = c.project-made.new.loses_info;
      lawful = c.requires.can;
      is_into =
          subst
          (λ (x : Datum). IsIntoProjectionBy it.target (format_of g.S.Semantics) it.rule x made.value
          (bits_of made.status) c.project-made.new.loses_info)
          c.from_bits-x.ensures.read c.project-made.ensures.into;
      below = c.project-made.ensures.below;
      bits_are = c.of.ensures.bits ∙ c.from.ensures;
      status_is = c.of.ensures.status;
      number_is = c.of.ensures.number ∙ told ∙ c.one_if.ensures;
    }
