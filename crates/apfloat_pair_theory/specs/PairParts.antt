-- Operations on pairs of doubles that work on their parts.
use Rattle.std.specs.Prelude.{◌≡◌, ℕ, ℤ, neg_ℤ, Bool, true, false, not, ◌&&◌, ◌||◌, Option}
use Rattle.std.specs.{Bool.MatchBool, Ordering.ordering_then, Ordering.partial_ordering_then}
use Rattle.std.specs.declared.cmp.Ordering.{Ordering, TheVariants.Less, TheVariants.Equal, TheVariants.Greater}
use Rattle.apfloat_model.specs.declared.kinds.Category.TheVariants.{Normal}
use Rattle.apfloat_model.specs.declared.kinds.Round.{Round, TheVariants.NearestTiesToEven}
use Rattle.apfloat_model.specs.formats.{Datum.Datum, Constants.smallest_datum, Constants.infinity_datum, Nan.qnan}
use Rattle.apfloat_model.specs.{formats.Nan.snan, formats.Nan.is_signaling_nan, arithmetic.Exact.same_sign}
use Rattle.apfloat_model.specs.arithmetic.{Sums.IsSum, Scaling.IsScaling, Exponents.IsIlogb, Exponents.IsFrexp}
use Rattle.apfloat_model.specs.order.Classes.{is_negative, is_finite_non_zero, is_denormal, is_integer, same_datum}
use Rattle.apfloat_model.specs.order.{Classes.category_of, Order.compared, Order.is_equal, Order.compared_magnitudes}
use Rattle.apfloat_pair_theory.specs.{PairFormats.double, NearestSums.nearest_sum}
use Rattle.apfloat_pair_theory.specs.Pairs.{Pair, alone, positive_zero, pair_of}

-- ---- named pairs

abbrev pub pair_zero : Pair
pair_zero = alone positive_zero

abbrev pub pair_smallest : Pair
pair_smallest = alone smallest_datum

abbrev pub pair_infinity : Pair
pair_infinity = alone (infinity_datum double)

abbrev pub pair_qnan : ℕ → Pair
pair_qnan payload = alone (qnan double payload)

abbrev pub pair_snan : ℕ → Pair
pair_snan payload = alone (snan double payload)

-- the largest double, plus the double just below half an ulp of it
abbrev pub pair_largest : Pair
pair_largest = pair_of 0x7c8ffffffffffffe7fefffffffffffff

-- 2 ^ -969: from here up, a low part can have all its digits
abbrev pub pair_smallest_normalized : Pair
pair_smallest_normalized = pair_of 0x0360000000000000

-- ---- on the high part alone

abbrev pub is_negative_pair : Pair → Bool
is_negative_pair x = is_negative x.high

abbrev pub is_signaling_pair : Pair → Bool
is_signaling_pair x = is_signaling_nan double x.high

abbrev pub IsPairIlogb : Pair → ℤ → Type 0
IsPairIlogb x exponent = IsIlogb double x.high exponent

-- ---- on both parts

abbrev pub same_pair : Pair → Pair → Bool
same_pair x y = same_datum x.high y.high && same_datum x.low y.low

abbrev pub is_equal_pair : Pair → Pair → Bool
is_equal_pair x y = is_equal x.high y.high && is_equal x.low y.low

abbrev pub is_integer_pair : Pair → Bool
is_integer_pair x = is_integer double x.high && is_integer double x.low

-- the high parts are compared first
abbrev pub compared_pairs : Pair → Pair → Option Ordering
compared_pairs x y = partial_ordering_then (compared x.high y.high) (compared x.low y.low)

-- whether the low part reduces the magnitude of the high part
abbrev pub are_opposite : Pair → Bool
are_opposite x = not (same_sign (is_negative x.high) (is_negative x.low))

-- The order of the magnitudes of two pairs whose high parts have equal magnitudes, given the order of the magnitudes of
-- the low parts. A pair whose parts have opposite signs is below one whose signs agree; of two pairs whose parts have
-- opposite signs, the one with the greater low magnitude is the lesser.
abbrev pub compared_low_magnitudes : Ordering → Bool → Bool → Ordering
compared_low_magnitudes Equal opposite other_opposite = Equal
compared_low_magnitudes Less true true = Greater
compared_low_magnitudes Less true false = Less
compared_low_magnitudes Less false true = Greater
compared_low_magnitudes Less false false = Less
compared_low_magnitudes Greater true true = Less
compared_low_magnitudes Greater true false = Less
compared_low_magnitudes Greater false true = Greater
compared_low_magnitudes Greater false false = Greater

-- for two pairs whose high parts are finite and nonzero; a low part that is not finite counts as 0
abbrev pub compared_pair_magnitudes : Pair → Pair → Ordering
compared_pair_magnitudes x y =
    ordering_then (compared_magnitudes x.high y.high)
    (compared_low_magnitudes (compared_magnitudes x.low y.low) (are_opposite x) (are_opposite y))

-- what comparing magnitudes requires: the high parts are finite and nonzero, and, if they are equal in magnitude, so
-- are the low parts
pub record CanComparePairMagnitudes (x y : Pair) : Type 0 where
  pub first : category_of x.high ≡ Normal
  pub second : category_of y.high ≡ Normal
  pub first_low : compared_magnitudes x.high y.high ≡ Equal → category_of x.low ≡ Normal
  pub second_low : compared_magnitudes x.high y.high ≡ Equal → category_of y.low ≡ Normal

-- the high part is denormal, or is not the sum of the parts
pub record IsDenormalByParts (x : Pair) (answer : Bool) : Type 0 where
  pub sum : Datum
  pub status : ℕ
  pub is_sum : IsSum double NearestTiesToEven x.high x.low sum status
  pub is : answer ≡ (is_denormal double x.high || not (is_equal x.high sum))

abbrev pub IsDenormalPair : Pair → Bool → Type 0
IsDenormalPair x answer = MatchBool (is_finite_non_zero x.high) (IsDenormalByParts x answer) (answer ≡ false)

-- whether a pair is denormal, as a function
abbrev pub is_denormal_pair : Pair → Bool
is_denormal_pair x =
    is_finite_non_zero x.high && (is_denormal double x.high || not (is_equal x.high (nearest_sum x.high x.low)))

-- ---- scaling and fractions

pub record IsPairScaling (mode : Round) (x : Pair) (power : ℤ) (answer : Pair) : Type 0 where
  pub high_is : IsScaling double mode x.high power answer.high
  pub low_is : IsScaling double mode x.low power answer.low

-- the low part is scaled like the high one
pub record IsPairFraction (mode : Round) (x : Pair) (answer : Pair) (exponent : ℤ) : Type 0 where
  pub high_is : IsFrexp double x.high answer.high exponent
  pub low_is : MatchBool (is_finite_non_zero x.high) (IsScaling double mode x.low (neg_ℤ exponent) answer.low)
      (answer.low ≡ x.low)
