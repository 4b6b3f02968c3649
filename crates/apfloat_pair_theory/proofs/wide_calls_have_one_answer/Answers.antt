use Rattle.std.specs.Prelude.{ℕ}
use Rattle.apfloat_pair_theory.specs.Pairs.{Pair}
use Rattle.apfloat_pair_theory.specs.PairAnswers.{HasPairAnswer, OncePair, HasOneAnswer}
use Rattle.apfloat_pair_theory.proofs.calls.CallsOnce.{pair_quotient_once, pair_truncated_remainder_once}
use Rattle.apfloat_pair_theory.proofs.calls.CallsOnce.{pair_nearest_remainder_once, pair_round_to_integral_once}
use Rattle.apfloat_pair_theory.proofs.calls.CallsOnce.{pair_next_up_once, pair_next_down_once, pair_from_unsigned_once}
use Rattle.apfloat_pair_theory.proofs.calls.CallsOnce.{pair_from_signed_once}
use Rattle.apfloat_pair_theory.proofs.calls.CallsExist.{pair_quotient_exists, pair_truncated_remainder_exists}
use Rattle.apfloat_pair_theory.proofs.calls.CallsExist.{pair_nearest_remainder_exists, pair_round_to_integral_exists}
use Rattle.apfloat_pair_theory.proofs.calls.CallsExist.{pair_next_up_exists, pair_next_down_exists}
use Rattle.apfloat_pair_theory.proofs.calls.CallsExist.{pair_from_unsigned_exists, pair_from_signed_exists}
use Rattle.apfloat_pair_theory.proofs.wide_calls_have_one_answer.Goals as goal

one : {R : Pair → ℕ → Type 0} → HasPairAnswer R → OncePair R → HasOneAnswer R
one exists once = record { exists = exists; once = once }

pub returns-clause-quotient : goal.returns-clause-quotient
returns-clause-quotient c mode x y = one (pair_quotient_exists mode x y) (pair_quotient_once mode x y)

pub returns-clause-truncated_remainder : goal.returns-clause-truncated_remainder
returns-clause-truncated_remainder c x y = one (pair_truncated_remainder_exists x y) (pair_truncated_remainder_once x y)

pub returns-clause-nearest_remainder : goal.returns-clause-nearest_remainder
returns-clause-nearest_remainder c x y = one (pair_nearest_remainder_exists x y) (pair_nearest_remainder_once x y)

pub returns-clause-round_to_integral : goal.returns-clause-round_to_integral
returns-clause-round_to_integral c mode x =
    one (pair_round_to_integral_exists mode x) (pair_round_to_integral_once mode x)

pub returns-clause-next_up : goal.returns-clause-next_up
returns-clause-next_up c x = one (pair_next_up_exists x) (pair_next_up_once x)

pub returns-clause-next_down : goal.returns-clause-next_down
returns-clause-next_down c x = one (pair_next_down_exists x) (pair_next_down_once x)

pub returns-clause-from_unsigned : goal.returns-clause-from_unsigned
returns-clause-from_unsigned c mode number =
    one (pair_from_unsigned_exists mode number) (pair_from_unsigned_once mode number)

pub returns-clause-from_signed : goal.returns-clause-from_signed
returns-clause-from_signed c mode number = one (pair_from_signed_exists mode number) (pair_from_signed_once mode number)
