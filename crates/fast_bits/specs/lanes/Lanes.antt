-- One number, from bits to bits.
use Rattle.std.specs.Prelude.{◌≡◌, ◌⊎◌, ℕ, ◌+◌, ◌-◌, ◌/◌, ◌^◌, Bool, true, false, not}
use Rattle.std.specs.Prelude.{◌&&◌, ◌||◌, ltb, leb, if◌then◌else◌}
use Rattle.apfloat_model.specs.{arithmetic.Conversions.IsConversion, bits.Layout.IsEncodedBy, bits.Layout.Layout}
use Rattle.apfloat_model.specs.{bits.Layout.datum_of, declared.kinds.Round.Round, order.Classes.is_finite}
use Rattle.apfloat_model.specs.{order.Classes.is_nan, formats.Datum.Datum}
use Rattle.apfloat_model.specs.formats.{Datum.finite, Format.Format, Format.largest, Format.nan_base, Nan.invalid_bit}
use Rattle.apfloat_model.specs.rounding.Rounding.{IsDelivered, inexact_bit, overflow_bit, past_largest, underflow_bit}
use Rattle.fast_bits.specs.declared.lanes.lanes.Lane.{Lane}
use Rattle.fast_bits.specs.lanes.Targets.{is_ieee, largest_code, signed_code}

abbrev pub flag_if : ℕ → Bool → ℕ
flag_if flag holds = if holds then flag else 0

-- the flags, as bits
abbrev pub flags_of : Lane → ℕ
flags_of lane =
    flag_if inexact_bit lane.inexact + flag_if underflow_bit lane.underflow + flag_if overflow_bit lane.overflow
    + flag_if invalid_bit lane.invalid

-- the bits and the flags of a lane: by what is kept, what that is rounded to, and what is delivered for it
pub record IsDeliveredLane (f : Format) (bits : ℕ) (raises negative : Bool) (kept rounded code : ℕ) (some : Bool)
    (lane : Lane) : Type 0 where
  pub bits_are : lane.bits ≡ signed_code f.nonfinite bits negative code
  pub inexact : lane.inexact ≡ (some || ltb (largest_code f) rounded)
  pub underflow : lane.underflow
      ≡ (lane.inexact && not (if f.tiny_before_rounding then leb (2 ^ (f.precision - 1)) kept
      else leb (2 ^ (f.precision - 1)) rounded))
  pub overflow : lane.overflow ≡ (ltb (largest_code f) rounded && raises)
  pub invalid : lane.invalid ≡ false
  pub nan_is : lane.is_nan ≡ (not (is_ieee f.nonfinite) && ltb (largest_code f) code)

-- what a number becomes that is rounded to that datum, where conversions may saturate
abbrev pub finished : Bool → Format → Bool → Datum → Datum
finished saturates f negative rounded =
    if saturates && not (is_finite rounded) then finite negative (largest f) else rounded

-- the bits, the flags and the outcome are those of the magnitude amount / parts quanta with that sign, rounded once
pub record IsRounded (saturates : Bool) (f : Format) (layout : Layout) (mode : Round) (negative : Bool)
    (amount parts : ℕ) (lane : Lane) : Type 0 where
  pub rounded : Datum
  pub is_delivered : IsDelivered f mode negative amount parts rounded (flags_of lane)
  pub is_encoded : IsEncodedBy f layout lane.bits (finished saturates f negative rounded)
  pub nan_is : lane.is_nan ≡ is_nan (finished saturates f negative rounded)

-- the bits encode a number of one format, and the lane is its conversion to the other
pub record IsConvertedLane (saturates : Bool) (from : Format) (read : Layout) (f : Format) (layout : Layout)
    (mode : Round) (bits : ℕ) (lane : Lane) : Type 0 where
  pub negative : Bool
  pub quanta : ℕ
  pub number : datum_of from read bits ≡ finite negative quanta
  pub rounded : Datum
  pub loses : Bool
  pub is_conversion : IsConversion from f mode (finite negative quanta) rounded (flags_of lane) loses
  pub is_encoded : IsEncodedBy f layout lane.bits (finished saturates f negative rounded)
  pub nan_is : lane.is_nan ≡ is_nan (finished saturates f negative rounded)

-- ---- infinities and NaNs

-- the lane of a number past the largest value, where that becomes what is past it
pub record IsPastLane (f : Format) (layout : Layout) (negative : Bool) (lane : Lane) : Type 0 where
  pub inexact : lane.inexact ≡ true
  pub underflow : lane.underflow ≡ false
  pub invalid : lane.invalid ≡ false
  pub is_encoded : IsEncodedBy f layout lane.bits (past_largest f.nonfinite (nan_base f) negative)
  pub nan_is : lane.is_nan ≡ is_nan (past_largest f.nonfinite (nan_base f) negative)

-- Sixteen digits begin with the first ones of a single's trailing significand, as many as a format of that precision
-- keeps.
pub record IsPayload (precision trailing payload : ℕ) : Type 0 where
  pub digits : payload / 2 ^ (17 - precision) ≡ trailing / 2 ^ (24 - precision)

-- the bits encode an infinity or a NaN of one format, and the lane is its conversion to the other
pub record IsSpecialLane (from : Format) (read : Layout) (f : Format) (layout : Layout) (mode : Round) (bits : ℕ)
    (lane : Lane) : Type 0 where
  pub special : Datum
  pub special_is : datum_of from read bits ≡ special
  pub not_finite : is_finite special ≡ false
  pub value : Datum
  pub loses : Bool
  pub is_conversion : IsConversion from f mode special value (flags_of lane) loses
  pub is_encoded : IsEncodedBy f layout lane.bits value
  pub nan_is : lane.is_nan ≡ is_nan value

-- the same for any datum; an infinity or a NaN is converted so only where no conversion saturates
abbrev pub IsLane : Bool → Format → Layout → Format → Layout → Round → ℕ → Lane → Type 0
IsLane saturates from read f layout mode bits lane =
    IsConvertedLane saturates from read f layout mode bits lane
    ⊎ ((saturates ≡ false) × IsSpecialLane from read f layout mode bits lane)
