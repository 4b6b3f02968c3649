-- The difference of two pairs of doubles, to nearest: it is the sum with the negated pair, and as accurate.
use Rattle.std.proofs.Common.{◌≡◌, ℕ, ◌+◌, ◌≤◌, sym, ap, ◌∙◌, subst, arith}
use Rattle.std.proofs.lemmas.Int.{ints}
use Rattle.std.specs.Prelude.{ℤ, neg_ℤ, ◌+ℤ◌, ◌-ℤ◌}
use Rattle.apfloat_model.specs.{declared.kinds.Round.TheVariants.NearestTiesToEven, order.Classes.is_finite}
use Rattle.apfloat_model.specs.{arithmetic.Exact.magnitude, formats.Members.IsMember}
use Rattle.apfloat_pair_theory.specs.{PairFormats.double, Pairs.Pair, Pairs.pair_number, Pairs.negated_pair}
use Rattle.apfloat_pair_theory.specs.{PairSums.IsPairDifference, PairAccuracy.sum_reach}
use Rattle.apfloat_pair_theory.specs.PairAccuracy.{HasZeroLow, AreWithinReach, IsExactPair, IsClosePair, total_size}
use Rattle.apfloat_pair_theory.specs.PairAccuracy.{IsErrorFreeDifference, IsAccurateDifference, HasPlainStatus}
use Rattle.apfloat_pair_theory.proofs.numbers.{Signed.magnitude-neg, Roundings.negated_finite}
use Rattle.apfloat_pair_theory.proofs.pairs.Negated.{negated_low, negated_normalised, negated_pair_number}
use Rattle.apfloat_pair_theory.proofs.pairs.Negated.{negated_quanta, negated_member}
use Rattle.apfloat_pair_theory.proofs.sums.PairSumLaws.{error_free_sum, accurate_sum, plain_sum}

-- the negation of a double alone is a double alone
negated_single : (x : Pair) → HasZeroLow x → HasZeroLow (negated_pair x)
negated_single x s = record { is_finite = negated_finite x.high s.is_finite; low_is = ap negated_low s.low_is }

-- negation keeps a pair within the reach of sums
second_negated : (x y : Pair) → AreWithinReach x y → AreWithinReach x (negated_pair y)
second_negated x y r = record {
  first = r.first;
  second = subst (λ (n : ℕ). n ≤ sum_reach) (sym (negated_quanta y.high)) r.second;
}

-- adding the negated number subtracts it
pub minus_is : (a b c : ℤ) → c ≡ neg_ℤ b → (a +ℤ c) ≡ (a -ℤ b)
minus_is a b c e = omega (arith, ints)

-- the difference of two doubles is error-free
pub error_free_difference : (x y answer : Pair) (status : ℕ) → IsMember double x.high → IsMember double y.high
    → IsPairDifference NearestTiesToEven x y answer status → IsErrorFreeDifference x y answer
error_free_difference x y answer status mx my k s t r =
    let n = negated_pair_number y t.is_finite (ap is_finite t.low_is) in
    subst (λ (z : ℤ). IsExactPair z 1 answer)
    (minus_is (pair_number x) (pair_number y) (pair_number (negated_pair y)) n)
    (error_free_sum x (negated_pair y) answer status mx (negated_member y.high t.is_finite my) k s (negated_single y t)
    (second_negated x y r))

-- the difference of normalized pairs is normalized, and close to the exact difference
pub accurate_difference : (x y answer : Pair) (status : ℕ) → IsPairDifference NearestTiesToEven x y answer status
    → IsAccurateDifference x y answer
accurate_difference x y answer status k s t r =
    let n = negated_pair_number y t.finite_high t.finite_low in
    subst (λ (i : ℕ). IsClosePair (pair_number x -ℤ pair_number y) 1 103 (magnitude (pair_number x) + i) answer)
    (ap magnitude n ∙ magnitude-neg (pair_number y))
    (subst (λ (z : ℤ). IsClosePair z 1 103 (total_size x (negated_pair y)) answer)
    (minus_is (pair_number x) (pair_number y) (pair_number (negated_pair y)) n)
    (accurate_sum x (negated_pair y) answer status k s (negated_normalised y t) (second_negated x y r)))

-- the status of a difference of normalized pairs is OK or INEXACT
pub plain_difference : (x y answer : Pair) (status : ℕ) → IsPairDifference NearestTiesToEven x y answer status
    → HasPlainStatus x y status
plain_difference x y answer status k s t r =
    plain_sum x (negated_pair y) answer status k s (negated_normalised y t) (second_negated x y r)
