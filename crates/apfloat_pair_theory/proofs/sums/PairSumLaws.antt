-- The sum of two pairs of doubles, rounded to nearest: that of two doubles is exact, and that of normalized pairs is
-- normalized, and close to the exact sum.
use Rattle.std.proofs.Common.{◌≡◌, ℕ, ◌+◌, ◌*◌, ◌^◌, ◌≤◌, true, sym, ap, ◌∙◌, subst}
use Rattle.std.proofs.{Common.inl, Common.⊎_elim, Common.arith, lemmas.Int.ints}
use Rattle.std.specs.Prelude.{ℤ, pos, ◌+ℤ◌, ◌-ℤ◌, ◌*ℤ◌}
use Rattle.apfloat_model.specs.declared.kinds.Round.TheVariants.{NearestTiesToEven}
use Rattle.apfloat_model.specs.formats.{Format.largest, Datum.Datum, Members.IsMember}
use Rattle.apfloat_model.specs.{rounding.Steps.Leads, order.Classes.is_finite, order.Classes.quanta_of}
use Rattle.apfloat_model.specs.{order.Order.number, arithmetic.Exact.magnitude}
use Rattle.apfloat_model.proofs.{arithmetic.Signs.one_side, whole_numbers.SignedProducts.times_one}
use Rattle.apfloat_pair_theory.specs.{PairFormats.double, Pairs.Pair, Pairs.pair_number, Pairs.IsNormalised}
use Rattle.apfloat_pair_theory.specs.PairSums.{sum_of_numbers, IsPairSum}
use Rattle.apfloat_pair_theory.specs.PairAccuracy.{sum_reach, AreWithinReach, IsExactPair, IsClosePair, total_size}
use Rattle.apfloat_pair_theory.specs.PairAccuracy.{IsErrorFreeSum, IsAccurateSum, HasPlainStatus}
use Rattle.apfloat_pair_theory.proofs.sums.{SumBounds.opening_bound, PairRoundings.exact_opening}
use Rattle.apfloat_pair_theory.proofs.sums.{PairRoundings.closing_shared, SumSteps.size, PairSumCases.IsGivenBack}
use Rattle.apfloat_pair_theory.proofs.sums.{PairSumCases.sum_rows, ClosingSums.is_ieee, ClosingSums.wide_enough}
use Rattle.apfloat_pair_theory.proofs.sums.{ClosingSums.room, SumAnswers.IsPairSummand}
use Rattle.apfloat_pair_theory.proofs.sums.SumAnswers.{IsPairOpening, IsSharing, IsSummed, numbers_summed}
use Rattle.apfloat_pair_theory.proofs.numbers.TwoSums.{IsShared, two_sum}
use Rattle.apfloat_pair_theory.proofs.pairs.Normalised.{IsHighOf, normalised_high, high_alone}
use Rattle.apfloat_pair_theory.proofs.pairs.LawOperands.{IsDoubleAlone, double_alone, magnitude_quanta, member_on_grid}
use Rattle.apfloat_pair_theory.proofs.pairs.LawOperands.{single_low, normalised_nearest, normalised_low}

-- ---- two doubles

-- if the number of quanta is within the reach, so is the magnitude
within_quanta : (datum : Datum) → is_finite datum ≡ true → quanta_of datum ≤ sum_reach
    → magnitude (number datum) ≤ sum_reach
within_quanta h e w = subst (λ (i : ℕ). i ≤ sum_reach) (sym (magnitude_quanta h e)) w

-- a number within the reach is within the largest value
reach_within : (t l n : ℕ) → n ≤ t → 3 * t ≤ l → n ≤ l
reach_within t l n h k = omega arith

-- a low part of 0 is within every bound
no_sevenths : (t : ℕ) (z : ℤ) → z ≡ pos 0 → 7 * magnitude z ≤ t
no_sevenths t z e = let m : magnitude z ≡ 0 = ap magnitude e in omega arith

-- a double alone is a summand of the laws
single_summand : (x : Pair) → IsDoubleAlone x → quanta_of x.high ≤ sum_reach → IsPairSummand x
single_summand x s r = record {
  finite_high = s.is_finite;
  finite_low = ap is_finite s.low_is;
  on_grid = member_on_grid x.high s.is_finite s.is_double;
  within = within_quanta x.high s.is_finite r;
  low_within = no_sevenths sum_reach (number x.low) (single_low x s);
}

-- a double with low part +0 is a normalized pair
pub single_normalised : (x : Pair) → IsDoubleAlone x → quanta_of x.high ≤ sum_reach → IsNormalised x
single_normalised x s r =
    let n = high_alone double x.high is_ieee s.is_finite (member_on_grid x.high s.is_finite s.is_double)
    (reach_within sum_reach (largest double) (size x.high) (within_quanta x.high s.is_finite r) room) in
    normalised_high x s.is_finite (ap is_finite s.low_is)
    (subst (λ (l : Datum). IsHighOf double x.high l) (sym s.low_is) n)

-- for two doubles, z and w are the exact sum
singles_open : (x y : Pair) (z q v r d e u w : ℤ) → IsDoubleAlone x → IsDoubleAlone y
    → IsPairOpening x y z q v r d e u w → ((z +ℤ w) ≡ (number x.high +ℤ number y.high)) × IsShared double.precision z w
singles_open x y z q v r d e u w s t k =
    exact_opening double.precision wide_enough (number x.high) (number x.low) (number y.high)
    (number y.low) z q v r d e u w (member_on_grid x.high s.is_finite s.is_double)
    (member_on_grid y.high t.is_finite t.is_double) (single_low x s) (single_low y t) k

-- adding a pair that is 0 leaves the first pair
first_back : (a aa c cc : ℤ) → c ≡ pos 0 → cc ≡ pos 0 → (a +ℤ aa) ≡ ((a +ℤ aa) +ℤ (c +ℤ cc))
first_back a aa c cc e g = omega (arith, ints)

-- adding a pair to a pair that is 0 leaves the second pair
second_back : (a aa c cc : ℤ) → a ≡ pos 0 → aa ≡ pos 0 → (c +ℤ cc) ≡ ((a +ℤ aa) +ℤ (c +ℤ cc))
second_back a aa c cc e g = omega (arith, ints)

-- an equality in parts of a quantum, for one part
in_quanta : (p s : ℤ) → p ≡ s → (p *ℤ pos 1) ≡ s
in_quanta p s e = times_one p ∙ e

-- an error bound in parts of a quantum, for one part
close_in_quanta : (p s : ℤ) (digits size : ℕ) → magnitude (p -ℤ s) * 2 ^ digits ≤ size
    → magnitude ((p *ℤ pos 1) -ℤ s) * 2 ^ digits ≤ size
close_in_quanta p s digits size h = subst (λ (i : ℤ). magnitude (i -ℤ s) * 2 ^ digits ≤ size) (sym (times_one p)) h

-- if the low parts are 0, the sum is that of the high parts
highs_alone : (a aa c cc p s : ℤ) → aa ≡ pos 0 → cc ≡ pos 0 → p ≡ s → s ≡ (a +ℤ c) → p ≡ ((a +ℤ aa) +ℤ (c +ℤ cc))
highs_alone a aa c cc p s e g h k = omega (arith, ints)

-- the chain of steps loses nothing for two doubles
summed_exactly : (x y answer : Pair) (status : ℕ) → IsDoubleAlone x → IsDoubleAlone y → IsSummed x y answer status
    → IsExactPair (pair_number x +ℤ pair_number y) 1 answer
summed_exactly x y answer status s t m =
    let o = singles_open x y _ _ _ _ _ _ _ _ s t m.roundings in
    record {
      normalised = m.normalised;
      number_is =
          in_quanta (pair_number answer) (pair_number x +ℤ pair_number y)
          (highs_alone (number x.high) (number x.low) (number y.high) (number y.low) (pair_number answer)
          (number m.z +ℤ number m.w) (single_low x s) (single_low y t) m.number_is o.0);
    }

-- a given result whose number is the exact sum loses nothing
given_exactly : (x y given answer : Pair) → answer ≡ given → IsNormalised given
    → pair_number given ≡ (pair_number x +ℤ pair_number y) → IsExactPair (pair_number x +ℤ pair_number y) 1 answer
given_exactly x y given answer e n s =
    subst (λ (i : Pair). IsExactPair (pair_number x +ℤ pair_number y) 1 i) (sym e)
    (record { normalised = n; number_is = in_quanta (pair_number given) (pair_number x +ℤ pair_number y) s })

-- the sum of two doubles is exact
alone_sum : (x y answer : Pair) (status : ℕ) → IsPairSum NearestTiesToEven x y answer status → IsDoubleAlone x
    → IsDoubleAlone y → AreWithinReach x y → IsExactPair (pair_number x +ℤ pair_number y) 1 answer
alone_sum x y answer status k s t r =
    ⊎_elim
    (λ (g : IsGivenBack y x answer status).
    given_exactly x y x answer g.answer_is (single_normalised x s r.first)
    (first_back (number x.high) (number x.low) (number y.high) (number y.low) g.other_is (single_low y t)))
    (λ h.
    ⊎_elim
    (λ (g : IsGivenBack x y answer status).
    given_exactly x y y answer g.answer_is (single_normalised y t r.second)
    (second_back (number x.high) (number x.low) (number y.high) (number y.low) g.other_is (single_low x s)))
    (λ (n : Leads double NearestTiesToEven (sum_of_numbers x y) answer status).
    summed_exactly x y answer status s t
    (numbers_summed x y answer status (single_summand x s r.first) (single_summand y t r.second)
    (λ z q v i d e u w m. (singles_open x y z q v i d e u w s t m).1) n))
    h)
    (sum_rows x y answer status s.is_finite t.is_finite k)

-- the law of error-free sums
pub error_free_sum : (x y answer : Pair) (status : ℕ) → IsMember double x.high → IsMember double y.high
    → IsPairSum NearestTiesToEven x y answer status → IsErrorFreeSum x y answer
error_free_sum x y answer status mx my k s t r =
    alone_sum x y answer status k (double_alone x mx s) (double_alone y my t) r

-- ---- two normalized pairs

-- a low part of at most a seventh of the high part is at most a seventh of its bound
low_enough : (t h l : ℕ) → 7 * l ≤ h → h ≤ t → 7 * l ≤ t
low_enough t h l a b = omega arith

-- a normalized pair is a summand of the laws
normalised_summand : (x : Pair) → IsNormalised x → quanta_of x.high ≤ sum_reach → IsPairSummand x
normalised_summand x s r =
    let w : magnitude (number x.high) ≤ sum_reach = within_quanta x.high s.finite_high r in
    record {
      finite_high = s.finite_high;
      finite_low = s.finite_low;
      on_grid = (normalised_nearest x s).on_grid;
      within = w;
      low_within = low_enough sum_reach (magnitude (number x.high)) (magnitude (number x.low)) (normalised_low x s) w;
    }

-- the sum and the rest of two normalized pairs are multiples of one power of two
normalised_share : (x y : Pair) → IsNormalised x → IsNormalised y → IsSharing x y
normalised_share x y s t z q v r d e u w k =
    let m = normalised_nearest x s in
    let n = normalised_nearest y t in
    let rest = two_sum double.precision wide_enough _ _ _ _ _ _ _ _ m.on_grid n.on_grid k.six in
    closing_shared double.precision wide_enough (number x.high) (number x.low) (number y.high)
    (number y.low) z e u w m n k.six.sum rest k.with_first k.with_second

-- if the high part is zero, so is the low part
low_zero : (h l : ℤ) → 7 * magnitude l ≤ magnitude h → h ≡ pos 0 → l ≡ pos 0
low_zero h l a e = let m : magnitude h ≡ 0 = ap magnitude e in omega (arith, ints, one_side l)

-- a result without error is within every bound
no_error : (p s : ℤ) (a b : ℕ) → p ≡ s → magnitude (p -ℤ s) * 2 ^ 103 ≤ a + b
no_error p s a b e = let m : magnitude (p -ℤ s) ≡ 0 = omega (arith, ints, one_side (p -ℤ s)) in omega arith

-- a result that is one of the operands is exact, so it is close
given_closely : (x y given answer : Pair) → answer ≡ given → IsNormalised given
    → pair_number given ≡ (pair_number x +ℤ pair_number y)
    → IsClosePair (pair_number x +ℤ pair_number y) 1 103 (total_size x y) answer
given_closely x y given answer e n s =
    subst (λ (i : Pair). IsClosePair (pair_number x +ℤ pair_number y) 1 103 (total_size x y) i) (sym e)
    (record {
      normalised = n;
      error = close_in_quanta (pair_number given) (pair_number x +ℤ pair_number y) 103 (total_size x y)
          (no_error (pair_number given) (pair_number x +ℤ pair_number y) (magnitude (pair_number x))
          (magnitude (pair_number y)) s);
    })

-- an error of at most 8 * 2 ^ -106 of a size is at most 2 ^ -103 of it
small_error : (d s : ℕ) → 2 ^ 53 * (2 ^ 53 * d) ≤ 8 * s → d * 2 ^ 103 ≤ s
small_error d s h = omega arith

-- the sum of two normalized pairs is close
summed_closely : (x y answer : Pair) (status : ℕ) → IsNormalised x → IsNormalised y → IsSummed x y answer status
    → IsClosePair (pair_number x +ℤ pair_number y) 1 103 (total_size x y) answer
summed_closely x y answer status s t m =
    let b = opening_bound double.precision wide_enough (number x.high) (number x.low) (number y.high) (number y.low)
    (number m.z) _ _ _ _ _ _ (number m.w) (normalised_nearest x s) (normalised_nearest y t) m.roundings in
    record {
      normalised = m.normalised;
      error =
          close_in_quanta (pair_number answer) (pair_number x +ℤ pair_number y) 103 (total_size x y)
          (subst (λ (i : ℤ). magnitude (i -ℤ (pair_number x +ℤ pair_number y)) * 2 ^ 103 ≤ total_size x y)
          (sym m.number_is) (small_error _ (total_size x y) b));
    }

-- the sum of normalized pairs is normalized, and close to the exact sum
pub accurate_sum : (x y answer : Pair) (status : ℕ) → IsPairSum NearestTiesToEven x y answer status
    → IsAccurateSum x y answer
accurate_sum x y answer status k s t r =
    ⊎_elim
    (λ (g : IsGivenBack y x answer status).
    given_closely x y x answer g.answer_is s
    (first_back (number x.high) (number x.low) (number y.high) (number y.low) g.other_is
    (low_zero _ (number y.low) (normalised_low y t) g.other_is)))
    (λ h.
    ⊎_elim
    (λ (g : IsGivenBack x y answer status).
    given_closely x y y answer g.answer_is t
    (second_back (number x.high) (number x.low) (number y.high) (number y.low) g.other_is
    (low_zero _ (number x.low) (normalised_low x s) g.other_is)))
    (λ (n : Leads double NearestTiesToEven (sum_of_numbers x y) answer status).
    summed_closely x y answer status s t
    (numbers_summed x y answer status (normalised_summand x s r.first) (normalised_summand y t r.second)
    (normalised_share x y s t) n))
    h)
    (sum_rows x y answer status s.finite_high t.finite_high k)

-- the union of the flags of the steps is OK or INEXACT
pub plain_sum : (x y answer : Pair) (status : ℕ) → IsPairSum NearestTiesToEven x y answer status
    → HasPlainStatus x y status
plain_sum x y answer status k s t r =
    ⊎_elim
    (λ (g : IsGivenBack y x answer status). inl g.status_is)
    (λ h.
    ⊎_elim
    (λ (g : IsGivenBack x y answer status). inl g.status_is)
    (λ (n : Leads double NearestTiesToEven (sum_of_numbers x y) answer status).
    let m = numbers_summed x y answer status (normalised_summand x s r.first) (normalised_summand y t r.second)
    (normalised_share x y s t) n in
    m.plain)
    h)
    (sum_rows x y answer status s.finite_high t.finite_high k)
