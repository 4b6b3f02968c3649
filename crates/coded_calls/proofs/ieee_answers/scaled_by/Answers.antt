use Rattle.std.proofs.{Math.Path.subst₂, lemmas.Int.to_z-of_z}
use Rattle.std.specs.Int.{w32}
use Rattle.rustc_apfloat.specs.{FlaggedTypes.constants_of, Flags.Gives, Lawful.format_with}
use Rattle.apfloat_conversions.specs.Scalings.{IsScaled}
use Rattle.coded_calls.proofs.ieee_answers.scaled_by.Goals as goal

pub returns : goal.returns
returns g c =
    let f = format_with (constants_of g.S.Flagged) in
    record {
      given = c.scale_b.result;
      holds = subst₂ (λ x power. Gives (IsScaled f c.args.round x power) c.scale_b.result)
          c.value-x.ensures (to_z-of_z w32 c.args.power c.ranges.power) c.scale_b.ensures;
      is_written = c.written.ensures;
    }
