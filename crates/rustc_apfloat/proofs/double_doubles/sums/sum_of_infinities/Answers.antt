use Rattle.std.proofs.Common.{true, ap, ◌∙◌}
use Rattle.apfloat_model.specs.{arithmetic.Exact.same_sign, order.Classes.is_negative, formats.Nan.invalid_bit}
use Rattle.apfloat_model.specs.rounding.{Flags.bits_of, Rounding.ok_bits, Steps.ends}
use Rattle.apfloat_pair_theory.specs.Pairs.{Pair, pair_nan_signed_as}
use Rattle.apfloat_pair_theory.proofs.sums.SumsSound.{at_test}
use Rattle.rustc_apfloat.proofs.double_doubles_lemmas.PairSteps.{signs_are}
use Rattle.rustc_apfloat.proofs.double_doubles.sums.sum_of_infinities.Goals as goal

pub returns-then-is_negative : goal.returns-then-is_negative
returns-then-is_negative c mode =
    at_test mode true (same_sign (is_negative c.args.x.high) (is_negative c.args.y.high)) (ends c.args.x ok_bits)
    (ends (pair_nan_signed_as c.args.x) invalid_bit) _ _
    (signs_are c.args.x c.args.y _ _ _ (c.is_negative.ensures ∙ ap (λ (p : Pair). is_negative p.high) c.x.view_is)
    (c.is_negative-2.ensures ∙ ap (λ (p : Pair). is_negative p.high) c.y.view_is) c.if-is_negative.true)
    (c.and.ensures.value, ap bits_of c.and.ensures.status)
