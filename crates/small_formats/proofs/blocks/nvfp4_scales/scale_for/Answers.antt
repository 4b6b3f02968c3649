use Rattle.std.proofs.Common.{ℕ, ◌*◌, ◌^◌, ap, lit≤, sym, ◌∙◌}
use Rattle.std.proofs.{Math.Nat.mul-pos, lemmas.Nat.pow_pos}
use Rattle.apfloat_model.specs.order.Classes.{is_finite, is_negative, quanta_of}
use Rattle.apfloat_model.specs.rounding.Flags.{bits_of}
use Rattle.apfloat_model.proofs.general.Choices.{match_false, match_true}
use Rattle.apfloat_ieee.specs.Types.{format_of}
use Rattle.small_formats.specs.blocks.Nvfp4.{scale_in}
use Rattle.small_formats.proofs.blocks_lemmas.Greatest.{zero_test}
use Rattle.small_formats.proofs.blocks_lemmas.NvScales.{quotient_own, scale_in_of, sixth_ratio}
use Rattle.small_formats.proofs.blocks.nvfp4_scales.scale_for.Goals as goal

pub returns-then-is_zero-clause-value : goal.returns-then-is_zero-clause-value
returns-then-is_zero-clause-value g c =
    match_true _ _ _ (sym (zero_test c.args.greatest c.requires.sign) ∙ sym c.is_zero.ensures ∙ c.if-is_zero.true)
    c.least.ensures.value

pub saturated_quotient-quotient-requires-clause-finite : goal.saturated_quotient-quotient-requires-clause-finite
saturated_quotient-quotient-requires-clause-finite g c = ap is_finite c.requires.sign

pub unless_zero-requires-clause-x : goal.unless_zero-requires-clause-x
unless_zero-requires-clause-x g c =
    let scale = (format_of g.S.Semantics).scale in
    let q : ℕ = quanta_of c.args.greatest in
    let t : ℕ = quanta_of c.args.tensor in
    let parts : ℕ = 2 ^ scale * (6 * t) in
    quotient_own scale_in c.args.round (is_negative c.args.greatest) (q * 2 ^ 158) parts
    c.saturated_quotient-quotient.result.value (bits_of c.saturated_quotient-quotient.result.status)
    (ap is_negative c.requires.sign)
    (c.saturated_quotient-quotient.ensures (q * 2 ^ 158) parts
    (mul-pos (pow_pos scale) (mul-pos (lit≤ tt) c.requires.tensor.some))
    (sixth_ratio q (quanta_of c.joint_scale-divisor.result) (quanta_of c.six.result) scale t 158 9 1074
    c.six.ensures.value c.joint_scale-divisor.ensures.value))

-- the quotient by the product of 6 and the tensor's scale
pub returns-clause-value : goal.returns-clause-value
returns-clause-value g c =
    let scale = (format_of g.S.Semantics).scale in
    let q : ℕ = quanta_of c.args.greatest in
    let t : ℕ = quanta_of c.args.tensor in
    let parts : ℕ = 2 ^ scale * (6 * t) in
    match_false _ _ _ (sym (zero_test c.args.greatest c.requires.sign) ∙ sym c.is_zero.ensures ∙ c.if-is_zero.false)
    (scale_in_of scale_in c.args.round (is_negative c.args.greatest) (q * 2 ^ 158) parts 1
    c.saturated_quotient-quotient.result.value c.least-2.result c.unless_zero.result
    (bits_of c.saturated_quotient-quotient.result.status) (ap is_negative c.requires.sign)
    (c.saturated_quotient-quotient.ensures (q * 2 ^ 158) parts
    (mul-pos (pow_pos scale) (mul-pos (lit≤ tt) c.requires.tensor.some))
    (sixth_ratio q (quanta_of c.joint_scale-divisor.result) (quanta_of c.six.result) scale t 158 9 1074
    c.six.ensures.value c.joint_scale-divisor.ensures.value)) c.least-2.ensures.value c.unless_zero.ensures.value)
