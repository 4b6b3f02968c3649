-- The closing sum of two doubles z and y, which ends each sum and each product of pairs: within reach, it is exact, and
-- the result is normalized.
use Rattle.std.proofs.Common.{◌≡◌, ℕ, ◌*◌, ◌^◌, ◌<◌, ◌≤◌, true, false, eqb, sym, refl, ap, ◌∙◌, subst, arith, inl, lit<}
use Rattle.std.proofs.{Common.lit≤, lemmas.Bool.false≢true, lemmas.Bool.and_parts, lemmas.Bool.eqb-true}
use Rattle.std.specs.Prelude.{ℤ, pos, ◌+ℤ◌}
use Rattle.apfloat_model.specs.{declared.kinds.Round.TheVariants.NearestTiesToEven, formats.Format.largest}
use Rattle.apfloat_model.specs.declared.kinds.NonfiniteBehavior.TheVariants.{IEEE754}
use Rattle.apfloat_model.specs.formats.Datum.{Datum, finite, infinite, nan}
use Rattle.apfloat_model.specs.rounding.{Rounding.ok_bits, Steps.Leads}
use Rattle.apfloat_model.specs.order.{Classes.is_finite, Classes.is_infinite, Classes.same_datum, Order.number}
use Rattle.apfloat_model.specs.arithmetic.{Exact.same_sign, Exact.signed, Sums.IsSum}
use Rattle.apfloat_model.proofs.arithmetic.Signs.{no_sign}
use Rattle.apfloat_pair_theory.specs.PairFormats.{double}
use Rattle.apfloat_pair_theory.specs.Pairs.{Pair, positive_zero, alone, pair_number, IsNormalised}
use Rattle.apfloat_pair_theory.specs.PairSums.{◌∪◌, closing_low, closing}
use Rattle.apfloat_pair_theory.specs.PairAccuracy.{IsOkOrInexact, sum_reach}
use Rattle.apfloat_pair_theory.proofs.numbers.{Signed.IsGridNumber, TwoSums.IsShared}
use Rattle.apfloat_pair_theory.proofs.numbers.Statuses.{sum_status, difference_status, union_status}
use Rattle.apfloat_pair_theory.proofs.sums.{PairRoundings.fast_two_sum, SumSteps.IsClosingSteps, SumSteps.IsAddend}
use Rattle.apfloat_pair_theory.proofs.sums.{SumSteps.size, SumSteps.closed, SumSteps.high_rounded, SumsSound.at_test}
use Rattle.apfloat_pair_theory.proofs.pairs.Normalised.{IsHighOf, normalised_high, high_of_sum, high_alone}

-- ---- doubles

-- doubles have infinities
pub is_ieee : double.nonfinite ≡ IEEE754
is_ieee = refl

-- doubles have at least three digits
pub wide_enough : 8 ≤ 2 ^ double.precision
wide_enough = lit≤ tt

-- doubles have at least one digit
pub digits : 1 < 2 ^ double.precision
digits = lit< tt

-- three times the reach of the laws is within the largest double
pub room : 3 * sum_reach ≤ largest double
room = lit≤ tt

-- ---- the branches

-- a finite datum is not infinite
pub finite_is_not_infinite : (datum : Datum) → is_finite datum ≡ true → is_infinite datum ≡ false
finite_is_not_infinite (finite b n) h = refl
finite_is_not_infinite (infinite b) h = absurd (false≢true h)
finite_is_not_infinite (nan b n) h = absurd (false≢true h)

-- ---- the closing sum

-- a normalized result whose number is the sum plus the rest; its status is OK or INEXACT if the flags before it are
pub record IsPairOf (sum rest : Datum) (flags : ℕ) (answer : Pair) (status : ℕ) : Type 0 where
  pub normalised : IsNormalised answer
  pub number_is : pair_number answer ≡ number sum +ℤ number rest
  pub plain : IsOkOrInexact flags → IsOkOrInexact status

-- a high part with the exact rest of the sum as its low part is a normalized pair
pair_of_high : (sum rest high low : Datum) (flags status : ℕ) → is_finite high ≡ true → is_finite low ≡ true
    → (number high +ℤ number low) ≡ (number sum +ℤ number rest) → IsHighOf double high low
    → (IsOkOrInexact flags → IsOkOrInexact status) → IsPairOf sum rest flags (record { high = high; low = low }) status
pair_of_high z y h l flags status fh fl e n o = record {
  normalised = normalised_high (record { high = h; low = l }) fh fl n;
  number_is = e;
  plain = o;
}

-- what holds of a given pair holds of a result equal to it
pub given_pair : (sum rest : Datum) (before : ℕ) (given : Pair) (flags : ℕ) (answer : Pair) (status : ℕ)
    → (answer ≡ given) × (status ≡ flags) → IsPairOf sum rest before given flags
    → IsPairOf sum rest before answer status
given_pair z y before given flags answer status x p =
    subst (λ (s : ℕ). IsPairOf z y before answer s) (sym x.1)
    (subst (λ (w : Pair). IsPairOf z y before w flags) (sym x.0) p)

-- the operands of a closing sum: both on the grid, and multiples of one unit
pub record IsClosable (sum rest : Datum) : Type 0 where
  pub addend : IsAddend sum_reach sum rest
  pub sum_on_grid : IsGridNumber double.precision (number sum)
  pub rest_on_grid : IsGridNumber double.precision (number rest)
  pub shared : IsShared double.precision (number sum) (number rest)

-- the low part is the error of the rounded sum
low_part_pair : (sum rest high : Datum) (before h_flags flags : ℕ) (answer : Pair) (status : ℕ) → IsClosable sum rest
    → (IsOkOrInexact before → IsOkOrInexact flags) → IsSum double NearestTiesToEven sum rest high h_flags
    → Leads double NearestTiesToEven (closing_low sum rest high flags) answer status
    → IsPairOf sum rest before answer status
low_part_pair z y h before h_flags flags answer status a o s left =
    let low = left.3 in
    let fz = a.addend.finite_sum in
    let fy = a.addend.finite_rest in
    let steps : IsClosingSteps double z y h left.0 low.0 =
    record { sum = (h_flags, s); first = (left.1, left.2); last = (low.1, low.2) } in
    let c = closed double is_ieee wide_enough sum_reach room z y h left.0 low.0 a.addend steps in
    let e = fast_two_sum double.precision wide_enough _ _ _ _ _ a.sum_on_grid a.rest_on_grid a.shared c.roundings in
    let n = high_of_sum double z y h low.0 h_flags is_ieee fz fy c.finite_high c.finite_low e s in
    let left_status = difference_status double z h left.0 left.1 is_ieee digits fz c.finite_high c.finite_left
    left.2 in
    let low_status = sum_status double left.0 y low.0 low.1 is_ieee digits c.finite_left fy c.finite_low low.2 in
    given_pair z y before (record { high = h; low = low.0 }) _ answer status low.3
    (pair_of_high z y h low.0 before _ c.finite_high c.finite_low e n
    (λ p. union_status _ _ (union_status _ _ (o p) left_status) low_status))

-- the closing sum of the sum and the rest, whatever the flags before it
pub closed_pair : (sum rest : Datum) (flags : ℕ) (answer : Pair) (status : ℕ) → IsClosable sum rest
    → Leads double NearestTiesToEven (closing sum rest flags) answer status → IsPairOf sum rest flags answer status
closed_pair z y flags answer status a (h, h_flags, is_h, is_answer) =
    let n = high_rounded double is_ieee wide_enough sum_reach room z y h h_flags a.addend is_h in
    let h_status = sum_status double z y h h_flags is_ieee digits a.addend.finite_sum a.addend.finite_rest
    n.is_finite is_h in
    low_part_pair z y h flags h_flags (flags ∪ h_flags) answer status a (λ p. union_status _ _ p h_status) is_h
    (at_test NearestTiesToEven _ true _ _ answer status n.is_finite is_answer)

-- ---- a rest of zero

-- a datum that is +0 has the number 0
pub zero_number : (datum : Datum) → same_datum datum positive_zero ≡ true → number datum ≡ pos 0
zero_number (finite b m) h =
    ap (λ (n : ℕ). signed b n) (eqb-true m 0 (and_parts (same_sign b false) (eqb m 0) h).1) ∙ no_sign b
zero_number (infinite b) h = absurd (false≢true h)
zero_number (nan b m) h = absurd (false≢true h)

-- nine quarters of the reach are within the largest double
sum_within_largest : (t l z : ℕ) → 4 * z ≤ 9 * t → 3 * t ≤ l → z ≤ l
sum_within_largest t l z h k = omega arith

-- if the rest is zero, the sum alone is the result
pub alone_pair : (sum rest : Datum) (flags : ℕ) → IsClosable sum rest → number rest ≡ pos 0
    → IsPairOf sum rest flags (alone sum) ok_bits
alone_pair z y flags a e =
    let f = a.addend.finite_sum in
    let n = high_alone double z is_ieee f a.sum_on_grid
    (sum_within_largest sum_reach (largest double) (size z) a.addend.sum_low room) in
    pair_of_high z y z positive_zero flags ok_bits f refl (ap (λ (i : ℤ). number z +ℤ i) (sym e)) n (λ p. inl refl)
