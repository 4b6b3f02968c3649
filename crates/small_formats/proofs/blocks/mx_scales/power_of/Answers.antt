use Rattle.std.proofs.Common.{ℕ, ◌+◌, ◌^◌, ap, ◌∙◌, sym, subst, arith, false}
use Rattle.std.proofs.lemmas.Nat.{pow_pos}
use Rattle.apfloat_model.specs.formats.{Datum.finite, Formats.bfloat_constants, Lawful.format_with, Members.IsFiniteOf}
use Rattle.apfloat_model.specs.{order.Classes.quanta_of, rounding.Flags.bits_of}
use Rattle.small_formats.proofs.blocks_lemmas.Powers.{bfloat_power, converted_scale, scale_quanta}
use Rattle.small_formats.proofs.blocks.mx_scales.power_of.Goals as goal

-- 2 ^ (code + 6) is a number of bfloat
pub returns-clause-value : goal.returns-clause-value
returns-clause-value c =
    ap quanta_of
    (converted_scale (format_with bfloat_constants) c.from_bits.result c.args.code (2 ^ (c.args.code + 6))
    c.convert_r.result.value (bits_of c.convert_r.result.status) c.convert_r.new.loses_info c.requires
    c.from_bits.ensures c.convert_r.ensures.exact (scale_quanta c.args.code) (bfloat_power c.args.code c.requires))

pub returns-clause-positive : goal.returns-clause-positive
returns-clause-positive c =
    let is = converted_scale (format_with bfloat_constants) c.from_bits.result c.args.code (2 ^ (c.args.code + 6))
    c.convert_r.result.value (bits_of c.convert_r.result.status) c.convert_r.new.loses_info c.requires
    c.from_bits.ensures c.convert_r.ensures.exact (scale_quanta c.args.code) (bfloat_power c.args.code c.requires) in
    let some = pow_pos (c.args.code + 6) in
    let quanta = ap quanta_of is in
    record {
      is = is ∙ sym (ap (λ (n : ℕ). finite false n) quanta);
      some = omega (arith, quanta, some);
      member = subst (λ (n : ℕ). IsFiniteOf (format_with bfloat_constants) false n) (sym quanta)
          (bfloat_power c.args.code c.requires);
    }
