use Rattle.std.proofs.Common.{Bool, ℕ, ◌*◌, ◌^◌, ◌∙◌, ap, bit_and, eqb, not, subst}
use Rattle.std.proofs.{Math.Nat.mul-pos, lemmas.Nat.pow_pos}
use Rattle.apfloat_model.specs.{declared.kinds.Round.TheVariants.TowardPositive, order.Classes.is_finite}
use Rattle.apfloat_model.specs.{order.Classes.is_negative, order.Classes.quanta_of, rounding.Flags.bits_of}
use Rattle.apfloat_ieee.specs.Types.{format_of}
use Rattle.small_formats.specs.blocks.Elements.{IsElement, format_of_element}
use Rattle.small_formats.proofs.blocks_lemmas.LeastScales.{by_power, overflow_is}
use Rattle.small_formats.proofs.blocks.mx_scales.is_clipped.Goals as goal

pub quotient_code-answer-requires-clause-finite : goal.quotient_code-answer-requires-clause-finite
quotient_code-answer-requires-clause-finite g c = ap is_finite c.requires.sign

-- the quotient is that by 2 ^ scale / 2 ^ 127
pub returns : goal.returns
returns g c =
    let f = format_of g.S.Semantics in
    let x = c.args.greatest in
    let amount : ℕ = quanta_of x * 2 ^ (format_of_element c.args.element).scale * 2 ^ 127 in
    let parts : ℕ = 2 ^ f.scale * 2 ^ c.args.scale in
    let some = mul-pos (pow_pos f.scale) (pow_pos c.args.scale) in
    ap (λ (s : ℕ). not (eqb (bit_and s 4) 0)) (c.bits.ensures tt)
    ∙ overflow_is c.args.element amount parts c.quotient_code-answer.result.value
    (bits_of c.quotient_code-answer.result.status) some
    (subst (λ (b : Bool). IsElement c.args.element TowardPositive b amount parts c.quotient_code-answer.result.value
    (bits_of c.quotient_code-answer.result.status)) (ap is_negative c.requires.sign)
    (c.quotient_code-answer.ensures.code amount parts some
    (by_power (quanta_of x) (quanta_of c.power_of.result) (format_of_element c.args.element).scale f.scale c.args.scale
    c.power_of.ensures.value)))
