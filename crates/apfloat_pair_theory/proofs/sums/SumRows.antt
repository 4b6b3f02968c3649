-- Worked sums of pairs, and operands to which the laws apply.
use Rattle.std.proofs.Common.{ℕ, ◌+◌, ◌*◌, ◌^◌, Bool, true, false, refl, lit≤}
use Rattle.apfloat_model.specs.{declared.kinds.Round.TheVariants.NearestTiesToEven, formats.Datum.finite}
use Rattle.apfloat_model.specs.rounding.Rounding.{ok_bits, inexact_bit}
use Rattle.apfloat_model.proofs.rows.RowsIn.{rounded}
use Rattle.apfloat_pair_theory.proofs.{sums.SumsSound.step, pairs.Normalised.normalised_by}
use Rattle.apfloat_pair_theory.specs.Pairs.{Pair, alone, IsNormalised}
use Rattle.apfloat_pair_theory.specs.{PairSums.IsPairSum, PairAccuracy.AreWithinReach}

abbrev parts_of : Bool → ℕ → Bool → ℕ → Pair
parts_of b m c n = record { high = finite b m; low = finite c n }

-- 1 and the smallest double: the result has both
one_and_smallest : IsPairSum NearestTiesToEven (alone (finite false (2 ^ 1074))) (alone (finite false 1))
    (parts_of false (2 ^ 1074) false 1) inexact_bit
one_and_smallest =
    step (finite false (2 ^ 1074)) 16 (rounded (2 ^ 52) 1022 refl refl refl)
    (step (finite false 0) 0 (rounded 0 0 refl refl refl) (step (finite false 1) 0 (rounded 1 0 refl refl refl)
    (step (finite false (2 ^ 1074)) 0 (rounded (2 ^ 52) 1022 refl refl refl)
    (step (finite false 0) 0 (rounded 0 0 refl refl refl) (step (finite false 1) 0 (rounded 1 0 refl refl refl)
    (step (finite false 1) 0 (rounded 1 0 refl refl refl) (step (finite false 1) 0 (rounded 1 0 refl refl refl)
    (step (finite false (2 ^ 1074)) 16 (rounded (2 ^ 52) 1022 refl refl refl)
    (step (finite false 0) 0 (rounded 0 0 refl refl refl)
    (step (finite false 1) 0 (rounded 1 0 refl refl refl) (refl, refl)))))))))))

-- ---- If the low parts cancel the error of the sum of the high parts, the result has no flag, and may not
-- be exact: this sum loses one quantum.

abbrev near : Pair
near = parts_of false (2 ^ 53) false 1

abbrev far : Pair
far = parts_of true ((2 ^ 52 + 2) * 2 ^ 54) true (2 ^ 53)

-- both are normalized and within reach
near_normalised : IsNormalised near
near_normalised = normalised_by near inexact_bit refl refl (rounded (2 ^ 52) 1 refl refl refl)

far_normalised : IsNormalised far
far_normalised = normalised_by far inexact_bit refl refl (rounded (2 ^ 52 + 2) 54 refl refl refl)

within_reach : AreWithinReach near far
within_reach = record { first = lit≤ tt; second = lit≤ tt }

-- their sum has no flag, and is one quantum off
loss_without_flag : IsPairSum NearestTiesToEven near far (alone (finite true ((2 ^ 52 + 2) * 2 ^ 54))) ok_bits
loss_without_flag =
    step (finite true ((2 ^ 52 + 2) * 2 ^ 54)) 16 (rounded (2 ^ 52 + 1) 54 refl refl refl)
    (step (finite false ((2 ^ 52 + 2) * 2 ^ 54)) 16 (rounded (2 ^ 52 + 2) 54 refl refl refl)
    (step (finite false 0) 0 (rounded 0 0 refl refl refl) (step (finite false 0) 0 (rounded 0 0 refl refl refl)
    (step (finite true (2 ^ 53)) 0 (rounded (2 ^ 52) 1 refl refl refl)
    (step (finite false (2 ^ 53)) 0 (rounded (2 ^ 52) 1 refl refl refl)
    (step (finite false (2 ^ 53)) 16 (rounded (2 ^ 52) 1 refl refl refl)
    (step (finite false 0) 0 (rounded 0 0 refl refl refl) (refl, refl))))))))
