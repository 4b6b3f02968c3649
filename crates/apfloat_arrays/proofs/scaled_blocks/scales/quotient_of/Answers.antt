use Rattle.std.proofs.Common.{ℕ, ◌*◌, ◌^◌, subst}
use Rattle.std.proofs.{Math.Nat.mul-pos, lemmas.Nat.pow_pos}
use Rattle.rustc_apfloat.specs.{Datum.Datum, Flags.bits_of, Types.format_of}
use Rattle.apfloat_model.specs.order.Classes.{quanta_of}
use Rattle.small_formats.specs.blocks.Elements.{IsQuotientBy, format_of_element}
use Rattle.small_formats.proofs.blocks_lemmas.Fractions.{element_fraction}
use Rattle.apfloat_arrays.proofs.scaled_blocks.scales.quotient_of.Goals as goal

pub returns : goal.returns
returns g c divisor unit some same =
    let f = format_of g.S.Semantics in
    let t = format_of_element c.args.element in
    let x = c.from_bits-x.result in
    let parts : ℕ = 2 ^ f.scale * divisor in
    subst
    (λ (d : Datum). IsQuotientBy c.args.element f c.args.round divisor unit d c.quotient_code.result.value
    (bits_of c.quotient_code.result.status)) c.from_bits-x.ensures.read (
      c.quotient_code.ensures.below,
      c.quotient_code.ensures.code (quanta_of x * 2 ^ t.scale * unit) parts (mul-pos (pow_pos f.scale) some)
          (element_fraction (quanta_of x) (quanta_of c.args.scale) t.scale (format_of g.R.Semantics).scale f.scale
          divisor
          unit same),
    )
