-- Sums of doubles as pairs, by the laws of sums of pairs.
use Rattle.std.proofs.Common.{◌≡◌, ℕ, ◌+◌, ◌*◌, ◌^◌, ◌<◌, ◌≤◌, refl, sym, ◌∙◌, subst, arith}
use Rattle.std.proofs.Math.{IntN.+ℤ_idr, Nat.mod-eq_of_lt, Nat.div-eq_of_lt, Path.subst₂}
use Rattle.std.specs.Prelude.{ℤ, ◌+ℤ◌}
use Rattle.rustc_apfloat.specs.{Datum.Datum, Classes.quanta_of, Exact.magnitude, Formats.double_constants}
use Rattle.rustc_apfloat.specs.{Layout.datum_of, Lawful.layout_with, Members.IsMember, Order.number, PairFormats.double}
use Rattle.rustc_apfloat.specs.{Pairs.Pair, Pairs.alone, Pairs.pair_of, Pairs.pair_number, PairAccuracy.sum_reach}
use Rattle.rustc_apfloat.specs.PairAccuracy.{HasZeroLow, IsExactPair, IsClosePair, IsErrorFreeSum, IsAccurateSum}
use Rattle.apfloat_pair_theory.proofs.numbers.Signed.{magnitude_le, first_most}
use Rattle.apfloat_pair_theory.proofs.pairs.LawOperands.{magnitude_quanta, normalised_low, double_alone}
use Rattle.apfloat_pair_theory.proofs.sums.PairSumLaws.{single_normalised}
use Rattle.apfloat_model.proofs.whole_numbers.SignedProducts.{times_one}
use Rattle.tests.specs.Summands.{reach_of_three, IsPlainSummand}

-- the number of a pair that is a double and +0
alone_number : (x : Datum) → pair_number (alone x) ≡ number x
alone_number x = +ℤ_idr (number x)

-- the bits of a double are those of a pair with low part +0
pub alone_of_bits : (x : Datum) (bits : ℕ) → bits < 2 ^ 64
    → datum_of double (layout_with double_constants) bits ≡ x → pair_of bits ≡ alone x
alone_of_bits x bits h e = rw (mod-eq_of_lt h, div-eq_of_lt h, e) refl

-- a summand with low part +0 is a single double
single : (reach : ℕ) (x : Datum) → IsPlainSummand reach x → HasZeroLow (alone x)
single reach x s = record { is_finite = s.is_finite; low_is = refl }

-- ---- two doubles

-- a sum of two doubles loses nothing
pub two_exactly : (x y : Datum) (first second answer : Pair) → first ≡ alone x → second ≡ alone y
    → IsPlainSummand sum_reach x → IsPlainSummand sum_reach y → IsErrorFreeSum first second answer
    → IsExactPair (number x +ℤ number y) 1 answer
two_exactly x y p q answer e f s t law =
    let at_both = subst₂ (λ (i : Pair) (j : Pair). IsErrorFreeSum i j answer) e f law in
    let exact =
    at_both (single sum_reach x s) (single sum_reach y t) (record { first = s.within; second = t.within }) in
    subst₂ (λ (i : ℤ) (j : ℤ). IsExactPair (i +ℤ j) 1 answer) (alone_number x) (alone_number y) exact

-- ---- three doubles

-- the high part is at most seven sixths of the number
high_most : (t h l n a b : ℕ) → 7 * l ≤ h → h ≤ n + l → n ≤ a + b → a ≤ t → b ≤ t → h ≤ 4 * t
high_most t h l n a b low high sum first second = omega arith

-- four times the reach of three summands is that of a sum
four_times : 4 * reach_of_three ≡ sum_reach
four_times = refl

-- the number of a summand is within its reach
summand_size : (reach : ℕ) (x : Datum) → IsPlainSummand reach x → magnitude (number x) ≤ reach
summand_size reach x s = subst (λ (i : ℕ). i ≤ reach) (sym (magnitude_quanta x s.is_finite)) s.within

-- the number of an exact sum is the sum of the numbers
exact_number : (x y : Datum) (sum : Pair) → IsExactPair (number x +ℤ number y) 1 sum
    → pair_number sum ≡ (number x +ℤ number y)
exact_number x y s e = sym (times_one (pair_number s)) ∙ e.number_is

-- the exact sum of two of three doubles is within reach
first_reach : (x y : Datum) (sum : Pair) → IsPlainSummand reach_of_three x → IsPlainSummand reach_of_three y
    → IsExactPair (number x +ℤ number y) 1 sum → quanta_of sum.high ≤ sum_reach
first_reach x y s k m e =
    let n = exact_number x y s e in
    let sum : magnitude (pair_number s) ≤ magnitude (number x) + magnitude (number y) =
    subst (λ (i : ℤ). magnitude i ≤ magnitude (number x) + magnitude (number y)) (sym n)
    (magnitude_le (number x) (number y)) in
    let most = high_most reach_of_three (magnitude (number s.high))
    (magnitude (number s.low)) (magnitude (pair_number s)) (magnitude (number x)) (magnitude (number y))
    (normalised_low s e.normalised) (first_most (number s.high) (number s.low)) sum
    (summand_size reach_of_three x k) (summand_size reach_of_three y m) in
    let quanta = subst (λ (i : ℕ). i ≤ 4 * reach_of_three) (magnitude_quanta s.high e.normalised.finite_high) most in
    subst (λ (i : ℕ). quanta_of s.high ≤ i) four_times quanta

-- a number within a reach is within four times that reach
widened_reach : (t n : ℕ) → n ≤ t → n ≤ 4 * t
widened_reach t n h = omega arith

-- the third double is within reach too
third_reach : (z : Datum) → IsPlainSummand reach_of_three z → quanta_of z ≤ sum_reach
third_reach z s = subst (λ (i : ℕ). quanta_of z ≤ i) four_times (widened_reach reach_of_three (quanta_of z) s.within)

-- a sum that is close for some summands is close for equal ones
close_by : (m n p q : ℤ) (answer : Pair) → m ≡ n → p ≡ q → IsClosePair (m +ℤ p) 1 103 (magnitude m + magnitude p) answer
    → IsClosePair (n +ℤ q) 1 103 (magnitude n + magnitude q) answer
close_by m n p q answer e f close =
    subst₂ (λ (i : ℤ) (j : ℤ). IsClosePair (i +ℤ j) 1 103 (magnitude i + magnitude j) answer) e f close

-- a sum of three doubles loses little
pub three_closely : (x y z : Datum) (sum third answer : Pair) → third ≡ alone z → IsMember double z
    → IsPlainSummand reach_of_three x → IsPlainSummand reach_of_three y → IsPlainSummand reach_of_three z
    → IsExactPair (number x +ℤ number y) 1 sum → IsAccurateSum sum third answer
    → IsClosePair ((number x +ℤ number y) +ℤ number z) 1 103
    (magnitude (number x +ℤ number y) + magnitude (number z)) answer
three_closely x y z s t answer f member a b c exact law =
    let at_third = subst (λ (i : Pair). IsAccurateSum s i answer) f law in
    let reach = third_reach z c in
    let normalised = single_normalised (alone z) (double_alone (alone z) member (single reach_of_three z c)) reach in
    let close = at_third exact.normalised normalised (record { first = first_reach x y s a b exact; second = reach }) in
    close_by (pair_number s) (number x +ℤ number y) (pair_number (alone z)) (number z) answer
    (exact_number x y s exact) (alone_number z) close
