-- Pairs of doubles: the number of a pair is the exact sum of its parts.
use Rattle.std.specs.Prelude.{◌≡◌, ℕ, ◌/◌, ◌%◌, ◌^◌, ◌<◌, ℤ, ◌+ℤ◌, ◌-ℤ◌, Bool}
use Rattle.std.specs.Prelude.{false, true, ◌&&◌, not, eqb, if◌then◌else◌}
use Rattle.std.specs.Bool.{MatchBool}
use Rattle.apfloat_model.specs.declared.kinds.Round.TheVariants.{NearestTiesToEven}
use Rattle.apfloat_model.specs.declared.kinds.{NonfiniteBehavior.TheVariants.IEEE754, Category.Category}
use Rattle.apfloat_model.specs.formats.{Datum.Datum, Datum.finite, Datum.nan, Nan.qnan, Nan.quiet_significand}
use Rattle.apfloat_model.specs.{formats.Lawful.layout_with, formats.Formats.double_constants, rounding.Rounding.ok_bits}
use Rattle.apfloat_model.specs.{rounding.Negation.negated, order.Classes.is_negative, order.Classes.is_finite}
use Rattle.apfloat_model.specs.order.{Classes.is_finite_non_zero, Classes.category_of, Order.number, Order.is_equal}
use Rattle.apfloat_model.specs.arithmetic.{Exact.signed, Exact.sign_of, Exact.magnitude, Sums.IsSum}
use Rattle.apfloat_model.specs.{arithmetic.Conversions.IsConversion, bits.Layout.datum_of, bits.Layout.IsEncodedBy}
use Rattle.apfloat_pair_theory.specs.PairFormats.{double, wide}

pub record Pair : Type 0 where
  pub high : Datum
  pub low : Datum

abbrev pub positive_zero : Datum
positive_zero = finite false 0

abbrev pub alone : Datum → Pair
alone high = record { high = high; low = positive_zero }

-- the number of a pair with finite parts, in quanta of a double
abbrev pub pair_number : Pair → ℤ
pair_number x = number x.high +ℤ number x.low

-- the category of a pair: that of its high part
abbrev pub pair_category : Pair → Category
pair_category x = category_of x.high

abbrev pub pair_nan : Pair
pair_nan = alone (qnan double 0)

abbrev pub pair_nan_signed_as : Pair → Pair
pair_nan_signed_as x = alone (nan (is_negative x.high) (quiet_significand double 0))

-- ---- bits: the high part is the lower half

abbrev pub pair_of : ℕ → Pair
pair_of bits =
    record {
      high = datum_of double (layout_with double_constants) (bits % 2 ^ 64);
      low = datum_of double (layout_with double_constants) (bits / 2 ^ 64 % 2 ^ 64);
    }

pub record IsPairEncodedBy (bits : ℕ) (x : Pair) : Type 0 where
  pub below : bits < 2 ^ 128
  pub high : IsEncodedBy double (layout_with double_constants) (bits % 2 ^ 64) x.high
  pub low : IsEncodedBy double (layout_with double_constants) (bits / 2 ^ 64) x.low

-- ---- the negation: a low part that is zero or not a number keeps its sign

abbrev pub negated_pair : Pair → Pair
negated_pair x =
    record {
      high = negated IEEE754 x.high;
      low = if is_finite_non_zero x.low then negated IEEE754 x.low else x.low;
    }

-- ---- the sum of the parts in the wide format, which has the quantum of a double and twice its precision

pub record IsWidened (part value : Datum) : Type 0 where
  pub status : ℕ
  pub loses_info : Bool
  pub is_conversion : IsConversion double wide NearestTiesToEven part value status loses_info

pub record IsSumOfParts (x : Pair) (value : Datum) : Type 0 where
  pub high : Datum
  pub low : Datum
  pub status : ℕ
  pub high_is : IsWidened x.high high
  pub low_is : IsWidened x.low low
  pub is_sum : IsSum wide NearestTiesToEven high low value status

-- if the high part is zero, infinite or a NaN, the low part is ignored
abbrev pub IsJoined : Pair → Datum → Type 0
IsJoined x value = MatchBool (is_finite_non_zero x.high) (IsSumOfParts x value) (IsWidened x.high value)

-- ---- a wide datum as a pair: the high part is the nearest double, and the low part is the rest

abbrev pub left_over : Datum → Datum → Datum
left_over (finite b m) (finite c n) =
    finite (sign_of false (signed b m -ℤ signed c n)) (magnitude (signed b m -ℤ signed c n))
left_over x y = positive_zero

abbrev pub low_part : Datum → Datum → ℕ → Datum
low_part x high status = if is_finite_non_zero high && not (eqb status ok_bits) then left_over x high
    else positive_zero

pub record IsNearestDouble (x high : Datum) (status : ℕ) : Type 0 where
  pub loses_info : Bool
  pub is_conversion : IsConversion wide double NearestTiesToEven x high status loses_info

pub record IsSplit (x : Datum) (answer : Pair) : Type 0 where
  pub status : ℕ
  pub loses_info : Bool
  pub high_is : IsConversion wide double NearestTiesToEven x answer.high status loses_info
  pub low_is : answer.low ≡ low_part x answer.high status

-- ---- operations in the wide format; the status is that of the wide operation

pub record IsSplitAnswer (call : Datum → ℕ → Type 0) (answer : Pair) (status : ℕ) : Type 0 where
  pub value : Datum
  pub is_value : call value status
  pub is_split : IsSplit value answer

pub record IsWideAnswer (call : Datum → Datum → ℕ → Type 0) (x answer : Pair) (status : ℕ) : Type 0 where
  pub joined : Datum
  pub is_joined : IsJoined x joined
  pub is_answer : IsSplitAnswer (call joined) answer status

pub record IsWideAnswerOfTwo (call : Datum → Datum → Datum → ℕ → Type 0) (x y answer : Pair) (status : ℕ) : Type 0
  where
    pub left : Datum
    pub right : Datum
    pub left_is : IsJoined x left
    pub right_is : IsJoined y right
    pub is_answer : IsSplitAnswer (call left right) answer status

-- ---- both parts are finite, and the high part is the double nearest to the number

pub record IsNormalised (x : Pair) : Type 0 where
  pub finite_high : is_finite x.high ≡ true
  pub finite_low : is_finite x.low ≡ true
  pub nearest : Datum
  pub status : ℕ
  pub is_nearest : IsSum double NearestTiesToEven x.high x.low nearest status
  pub same_number : is_equal x.high nearest ≡ true
