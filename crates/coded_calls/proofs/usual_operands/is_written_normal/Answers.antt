use Rattle.std.proofs.Common.{ℕ, ◌+◌, ◌-◌, ◌%◌, ◌/◌, ◌<◌, ◌^◌, ap, refl, subst, ◌∙◌}
use Rattle.std.proofs.lemmas.Bool.{leb-true}
use Rattle.rustc_apfloat.specs.FlaggedTypes.{constants_of}
use Rattle.coded_calls.proofs.UsualAnswers.{computed_is_divisor}
use Rattle.coded_calls.proofs.usual_operands.is_written_normal.Goals as goal

pub returns-then-is_inner : goal.returns-then-is_inner
returns-then-is_inner g c = λ full.
    let k = constants_of g.S.Flagged in
    let is = c.lowest-biased.ensures
    ∙ ap (λ (n : ℕ). c.args.bits / c.power_of_two-above.result % 2 ^ n) c.EXP_BITS.ensures in
    let inner = subst (λ (n : ℕ). (0 < n) × (n + 1 < 2 ^ k.exp_bits)) is
    (c.is_inner.ensures c.if-is_inner.true) in
    computed_is_divisor k c.args.bits c.power_of_two-above.result (2 ^ k.exp_bits)
    c.power_of_two-integer_bit.result c.requires.explicit c.requires.fitting
    (c.power_of_two-above.ensures ∙ ap (λ (n : ℕ). 2 ^ n) c.PRECISION.ensures) refl
    (c.power_of_two-integer_bit.ensures ∙ ap (λ (n : ℕ). 2 ^ (n - 1)) c.PRECISION-2.ensures)
    inner.0 inner.1 (leb-true _ _ full)
