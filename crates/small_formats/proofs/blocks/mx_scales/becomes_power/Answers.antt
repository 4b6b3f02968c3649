use Rattle.std.proofs.Common.{◌≡◌, Bool, ℕ, ◌+◌, ◌-◌, ◌*◌, ◌^◌, ◌∙◌, ap, eqb, leb, false}
use Rattle.std.proofs.{Common.subst, Common.arith, Math.Nat.mul-pos, lemmas.Nat.pow_pos}
use Rattle.apfloat_model.specs.{declared.kinds.Round.TheVariants.NearestTiesToEven, order.Classes.is_finite}
use Rattle.apfloat_model.specs.{order.Classes.is_negative, order.Classes.quanta_of, rounding.Flags.bits_of}
use Rattle.apfloat_model.proofs.general.Powers.{twice_power}
use Rattle.apfloat_ieee.specs.Types.{format_of}
use Rattle.small_formats.specs.blocks.Elements.{IsElement, format_of_element, max_exp}
use Rattle.small_formats.specs.blocks.MxScales.{last_middle}
use Rattle.small_formats.proofs.blocks_lemmas.LeastScales.{by_power, middle_pick, power_is, roomy}
use Rattle.small_formats.proofs.blocks_lemmas.exact.Rooms.{short}
use Rattle.small_formats.proofs.blocks.mx_scales.becomes_power.Goals as goal

pub quotient_code-answer-requires-clause-finite : goal.quotient_code-answer-requires-clause-finite
quotient_code-answer-requires-clause-finite g c = ap is_finite c.requires.sign

-- the quotient is that by 2 ^ scale / 2 ^ 127
pub returns : goal.returns
returns g c = λ within.
    let f = format_of g.S.Semantics in
    let t = format_of_element c.args.element in
    let x = c.args.greatest in
    let top : ℕ = t.scale + max_exp c.args.element in
    let code : ℕ = c.quotient_code-answer.result.value in
    let next : ℕ = c.args.scale + 1 in
    let amount : ℕ = quanta_of x * 2 ^ t.scale * 2 ^ 127 in
    let parts : ℕ = 2 ^ f.scale * 2 ^ next in
    let some = mul-pos (pow_pos f.scale) (pow_pos next) in
    let h : IsElement c.args.element NearestTiesToEven false amount parts code
    (bits_of c.quotient_code-answer.result.status) =
    subst (λ (b : Bool). IsElement c.args.element NearestTiesToEven b amount parts code
    (bits_of c.quotient_code-answer.result.status)) (ap is_negative c.requires.sign)
    (c.quotient_code-answer.ensures.code amount parts some
    (by_power (quanta_of x) (quanta_of c.power_of.result) t.scale f.scale next c.power_of.ensures.value)) in
    let middle : (2 ^ (t.precision + 1) - 1) * 2 ^ top * parts ≡ last_middle c.args.element
    * (2 ^ f.scale * 2 ^ c.args.scale) = ap (λ (n : ℕ). (2 ^ (t.precision + 1) - 1) * 2 ^ top * (2 ^ f.scale * n))
    (twice_power c.args.scale) ∙ omega arith in
    ap (λ (n : ℕ). eqb code n) c.power_code.ensures
    ∙ power_is c.args.element h.pick code c.quotient_code-answer.ensures.below h.value_is
    ∙ middle_pick t.precision top amount parts h.pick (short c.args.element).full (roomy c.args.element) some within
    h.is_pick ∙ ap (λ (n : ℕ). leb n (amount * 2 ^ (t.precision + 1))) middle
