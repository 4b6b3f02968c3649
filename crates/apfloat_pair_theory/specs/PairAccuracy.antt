-- The accuracy of sums, differences and products of pairs, rounded to nearest, within given ranges; and of splits, and
-- so of quotients and remainders, whenever the high part is finite. The number of a pair is an integral number of
-- quanta of 2 ^ -1074. So the product of two counts of quanta is the exact product in parts of a quantum, of which a
-- quantum has 2 ^ 1074.
use Rattle.std.specs.Prelude.{◌≡◌, ◌⊎◌, ℕ, ◌+◌, ◌*◌, ◌^◌, ◌≤◌, ℤ, pos, neg_ℤ, ◌+ℤ◌, ◌-ℤ◌, ◌*ℤ◌, ◌≤ℤ◌, true}
use Rattle.apfloat_model.specs.{rounding.Rounding.ok_bits, rounding.Rounding.inexact_bit, arithmetic.Exact.magnitude}
use Rattle.apfloat_model.specs.{arithmetic.Remainders.IsNearestRemainder, declared.kinds.Round.Round}
use Rattle.apfloat_model.specs.formats.{Format.largest, Datum.Datum, Members.IsMember}
use Rattle.apfloat_model.specs.order.{Order.number, Classes.is_finite, Classes.is_finite_non_zero, Classes.quanta_of}
use Rattle.apfloat_model.specs.arithmetic.{Exponents.IsIlogb, Quotients.IsQuotient, Remainders.IsTruncatedRemainder}
use Rattle.apfloat_pair_theory.specs.PairFormats.{double, wide}
use Rattle.apfloat_pair_theory.specs.Pairs.{Pair, positive_zero, pair_number, IsJoined, IsNormalised}

-- ---- operands

-- a finite high part with +0 as the low part; for the laws about it, the high part is a double
pub record HasZeroLow (x : Pair) : Type 0 where
  pub is_finite : is_finite x.high ≡ true
  pub low_is : x.low ≡ positive_zero

-- 2 ^ 1022, in quanta
abbrev pub sum_reach : ℕ
sum_reach = 2 ^ (1022 + double.scale)

-- for a sum: the high parts have magnitudes of at most 2 ^ 1022
pub record AreWithinReach (x y : Pair) : Type 0 where
  pub first : quanta_of x.high ≤ sum_reach
  pub second : quanta_of y.high ≤ sum_reach

-- for a product: the high parts are finite and nonzero, and their exponents add up to at least `least` and at most
-- `greatest`
pub record HaveExponents (x y : Pair) (least greatest : ℤ) : Type 0 where
  pub first_is_number : is_finite_non_zero x.high ≡ true
  pub second_is_number : is_finite_non_zero y.high ≡ true
  pub first : ℤ
  pub second : ℤ
  pub is_first : IsIlogb double x.high first
  pub is_second : IsIlogb double y.high second
  pub not_below : least ≤ℤ (first +ℤ second)
  pub not_above : (first +ℤ second) ≤ℤ greatest

-- ---- results, compared with the exact result in parts of a quantum

-- The parts are finite and add up to exact / parts quanta, and the high part is the double nearest to that.
pub record IsExactPair (exact : ℤ) (parts : ℕ) (answer : Pair) : Type 0 where
  pub normalised : IsNormalised answer
  pub number_is : (pair_number answer *ℤ pos parts) ≡ exact

-- The result is normalized, and differs from exact / parts quanta by at most 2 ^ -digits of size / parts quanta.
pub record IsClosePair (exact : ℤ) (parts digits size : ℕ) (answer : Pair) : Type 0 where
  pub normalised : IsNormalised answer
  pub error : magnitude ((pair_number answer *ℤ pos parts) -ℤ exact) * 2 ^ digits ≤ size

-- ---- the sum of x and y

abbrev pub total_size : Pair → Pair → ℕ
total_size x y = magnitude (pair_number x) + magnitude (pair_number y)

-- for two doubles, the sum is exact
abbrev pub IsErrorFreeSum : Pair → Pair → Pair → Type 0
IsErrorFreeSum x y answer =
    HasZeroLow x → HasZeroLow y → AreWithinReach x y → IsExactPair (pair_number x +ℤ pair_number y) 1 answer

-- for normalized pairs, the error is small relative to the sum of both magnitudes
abbrev pub IsAccurateSum : Pair → Pair → Pair → Type 0
IsAccurateSum x y answer =
    IsNormalised x → IsNormalised y → AreWithinReach x y
    → IsClosePair (pair_number x +ℤ pair_number y) 1 103 (total_size x y) answer

-- ---- the difference, which is the sum of x and the negation of y

abbrev pub IsErrorFreeDifference : Pair → Pair → Pair → Type 0
IsErrorFreeDifference x y answer =
    HasZeroLow x → HasZeroLow y → AreWithinReach x y → IsExactPair (pair_number x -ℤ pair_number y) 1 answer

abbrev pub IsAccurateDifference : Pair → Pair → Pair → Type 0
IsAccurateDifference x y answer =
    IsNormalised x → IsNormalised y → AreWithinReach x y
    → IsClosePair (pair_number x -ℤ pair_number y) 1 103 (total_size x y) answer

-- ---- the product of x and y

-- for two doubles, the product is exact if all its digits are within the range of doubles
abbrev pub IsErrorFreeProduct : Pair → Pair → Pair → Type 0
IsErrorFreeProduct x y answer =
    HasZeroLow x → HasZeroLow y → HaveExponents x y (neg_ℤ (pos 970)) (pos 1021)
    → IsExactPair (pair_number x *ℤ pair_number y) (2 ^ double.scale) answer

-- for normalized pairs, the error is small relative to the exact product
abbrev pub IsAccurateProduct : Pair → Pair → Pair → Type 0
IsAccurateProduct x y answer =
    IsNormalised x → IsNormalised y → HaveExponents x y (neg_ℤ (pos 900)) (pos 1021)
    → IsClosePair (pair_number x *ℤ pair_number y) (2 ^ double.scale) 102
    (magnitude (pair_number x *ℤ pair_number y)) answer

-- ---- the status of a sum or a difference: the flags of all steps, joined

abbrev pub IsOkOrInexact : ℕ → Type 0
IsOkOrInexact status = (status ≡ ok_bits) ⊎ (status ≡ inexact_bit)

-- a status of OK does not mean that the result is exact: if the low parts cancel the error of the sum of the high
-- parts, no flag is raised
abbrev pub HasPlainStatus : Pair → Pair → ℕ → Type 0
HasPlainStatus x y status = IsNormalised x → IsNormalised y → AreWithinReach x y → IsOkOrInexact status

-- ---- a split of a wide datum

-- whenever the high part is finite, the parts add up exactly to the wide number
abbrev pub IsExactSplit : Datum → Pair → Type 0
IsExactSplit x answer = is_finite answer.high ≡ true → pair_number answer ≡ number x

-- for a wide number within the largest double, nothing is lost, and the rest is a double
abbrev pub IsLosslessSplit : Datum → Pair → Type 0
IsLosslessSplit x answer =
    IsMember wide x → is_finite_non_zero x ≡ true → quanta_of x ≤ largest double
    → IsExactPair (number x) 1 answer × IsMember double answer.low

-- ---- quotients and remainders: whenever the high part is finite, the parts add up exactly to the wide result

pub record IsExactAnswerOfTwo (call : Datum → Datum → Datum → ℕ → Type 0) (x y answer : Pair) (status : ℕ) : Type 0
  where
    pub left : Datum
    pub right : Datum
    pub value : Datum
    pub left_is : IsJoined x left
    pub right_is : IsJoined y right
    pub is_value : call left right value status
    pub exactly : IsExactSplit value answer

abbrev pub IsExactQuotient : Round → Pair → Pair → Pair → ℕ → Type 0
IsExactQuotient mode x y answer status = IsExactAnswerOfTwo (IsQuotient wide mode) x y answer status

abbrev pub IsExactTruncatedRemainder : Pair → Pair → Pair → ℕ → Type 0
IsExactTruncatedRemainder x y answer status = IsExactAnswerOfTwo (IsTruncatedRemainder wide) x y answer status

abbrev pub IsExactNearestRemainder : Pair → Pair → Pair → ℕ → Type 0
IsExactNearestRemainder x y answer status = IsExactAnswerOfTwo (IsNearestRemainder wide) x y answer status
