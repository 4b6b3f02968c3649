-- The formats of IEEE P3109: a width, a precision, with or without a sign, with or without infinities. They have one
-- zero and one NaN.
use Rattle.std.specs.Prelude.{◌≡◌, ℕ, ◌+◌, ◌-◌, ◌*◌, ◌%◌, ◌^◌, ◌≤◌, Bool, true, false}
use Rattle.std.specs.Prelude.{not, ◌&&◌, eqb, ltb, leb, if◌then◌else◌}
use Rattle.std.specs.Bool.{MatchBool}
use Rattle.apfloat_model.specs.declared.kinds.{NonfiniteBehavior.TheVariants.NanNegativeZero, Round.Round}
use Rattle.apfloat_model.specs.formats.{Datum.Datum, Datum.finite, Datum.infinite, Datum.nan, Format.Format}
use Rattle.apfloat_model.specs.formats.{Format.payload_mask, Nan.invalid_bit, Nan.invalid_if, Nan.is_signaling}
use Rattle.apfloat_model.specs.rounding.Rounding.{IsPick, inexact_bit, leads_out, ok_bits, overflow_bit, signed_quanta}
use Rattle.apfloat_model.specs.rounding.Rounding.{takes_above, underflow_bit}
use Rattle.small_formats.specs.{Codes.point, IndexPicks.IsIndexPick}
use Rattle.p3109_formats.specs.declared.descriptor.Descriptor.{Descriptor}

abbrev pub projection_with : ℕ → ℕ → Bool → Bool → Descriptor
projection_with bits precision signed extended =
    record { bits = bits; precision = precision; signed = signed; extended = extended }

abbrev pub sign_bits : Descriptor → ℕ
sign_bits c = if c.signed then 1 else 0

-- The law. The exponent has at least one bit.
pub record IsProjection (c : Descriptor) : Type 0 where
  pub bits_low : 3 ≤ c.bits
  pub bits_high : c.bits ≤ 15
  pub precision_low : 1 ≤ c.precision
  pub exponent : c.precision + sign_bits c ≤ c.bits

-- ---- codes

-- Half of the exponents are below 1, whose code is in the middle of the codes without a sign.
abbrev pub exponent_bits : Descriptor → ℕ
exponent_bits c = c.bits + 1 - c.precision - sign_bits c

abbrev pub bias : Descriptor → ℕ
bias c = 2 ^ (exponent_bits c - 1)

abbrev pub unsigned_codes : Descriptor → ℕ
unsigned_codes c = 2 ^ (c.bits - sign_bits c)

-- the NaN is the code that would be -0; without a sign, it is the last code
abbrev pub nan_code : Descriptor → ℕ
nan_code c = if c.signed then unsigned_codes c else unsigned_codes c - 1

-- the number of the largest point: the last code below the sign and the NaN, or the one before the infinity there
abbrev pub largest_index : Descriptor → ℕ
largest_index c = unsigned_codes c - 1 - (if c.signed then 0 else 1) - (if c.extended then 1 else 0)

-- a sign, and the code below it
abbrev pub is_negative_code : Descriptor → ℕ → Bool
is_negative_code c code = c.signed && leb (unsigned_codes c) code

abbrev pub magnitude_of : Descriptor → ℕ → ℕ
magnitude_of c code = code % unsigned_codes c

-- what the code means; the significand of the NaN is 0
abbrev pub projected_datum : Descriptor → ℕ → Datum
projected_datum c code =
    if eqb code (nan_code c) then nan false 0
    else (if ltb (largest_index c) (magnitude_of c code) then infinite (is_negative_code c code)
    else finite (is_negative_code c code) (point c.precision (magnitude_of c code)))

-- The numbers of the format as those of a format of the model: the quantum and the digits. Only conversions out of the
-- format use it, and these read neither its greatest exponent nor whether it has infinities.
abbrev pub projected_format : Descriptor → Format
projected_format c =
    record {
      precision = c.precision;
      scale = c.precision + bias c - 2;
      span = 2 ^ exponent_bits c - 2;
      nonfinite = NanNegativeZero;
      explicit_integer_bit = false;
      tiny_before_rounding = false;
      ieee_flags = false;
    }

-- ---- one rounding

-- the index of one of the two points around a magnitude; a tie to even goes to the even index
abbrev pub IsCodePick : ℕ → Round → Bool → ℕ → ℕ → ℕ → Type 0
IsCodePick precision mode negative amount parts index =
    IsIndexPick (takes_above mode negative) (point precision) amount parts index

-- The index of the point that is picked. A significand of one digit is always odd, so there the codes decide a tie.
abbrev pub IsPointPick : ℕ → Round → Bool → ℕ → ℕ → ℕ → Type 0
IsPointPick precision mode negative amount parts index =
    MatchBool (eqb precision 1) (IsCodePick precision mode negative amount parts index)
    (IsPick precision mode negative amount parts (point precision index))

-- the infinity of that sign, or the NaN in its place
abbrev pub past_value : Descriptor → Bool → Datum
past_value c negative = if c.extended then infinite negative else nan false 0

-- a format without a sign lacks what is below zero once it is rounded
abbrev pub lacks_point : Descriptor → Bool → ℕ → Bool
lacks_point c negative index = (negative && not c.signed) && not (eqb index 0)

-- `leads` says whether a point past the largest number becomes what is past it
abbrev pub projected_value : Descriptor → Bool → Bool → ℕ → Datum
projected_value c leads negative index =
    if lacks_point c negative index then nan false 0
    else (if ltb (largest_index c) index
    then (if leads then past_value c negative else finite negative (point c.precision (largest_index c)))
    else signed_quanta NanNegativeZero negative (point c.precision index))

abbrev pub projected_status : Descriptor → Round → Bool → ℕ → ℕ → ℕ → ℕ
projected_status c mode negative amount parts index =
    if lacks_point c negative index then invalid_bit
    else (if ltb (largest_index c) index
    then (if leads_out mode negative then overflow_bit + inexact_bit else inexact_bit)
    else (if eqb (point c.precision index * parts) amount then ok_bits
    else (if ltb index (2 ^ (c.precision - 1)) then underflow_bit + inexact_bit else inexact_bit)))

pub record IsProjected (c : Descriptor) (mode : Round) (negative : Bool) (amount parts code status : ℕ)
    : Type 0 where
  pub index : ℕ
  pub is_pick : IsPointPick c.precision mode negative amount parts index
  pub value_is : projected_datum c code ≡ projected_value c (leads_out mode negative) negative index
  pub status_is : status ≡ projected_status c mode negative amount parts index

-- ---- any value

pub record IsProjectedNumber (c : Descriptor) (f : Format) (mode : Round) (negative : Bool)
    (quanta code status : ℕ) (loses_info : Bool) : Type 0 where
  pub is_rounded : IsProjected c mode negative (quanta * 2 ^ (projected_format c).scale) (2 ^ f.scale) code status
  pub loses_is : loses_info ≡ not (eqb status ok_bits)

pub record IsCodeOf (c : Descriptor) (given : Datum) (flags : ℕ) (loses : Bool) (code status : ℕ)
    (loses_info : Bool) : Type 0 where
  pub value_is : projected_datum c code ≡ given
  pub status_is : status ≡ flags
  pub loses_is : loses_info ≡ loses

-- the infinity below zero has no code without a sign
abbrev pub IsWithoutCode : Descriptor → ℕ → ℕ → Bool → Type 0
IsWithoutCode c code status loses_info = IsCodeOf c (nan false 0) invalid_bit true code status loses_info

abbrev pub IsInfinityOf : Descriptor → Bool → ℕ → ℕ → Bool → Type 0
IsInfinityOf c negative code status loses_info =
    MatchBool c.extended (IsCodeOf c (infinite negative) ok_bits false code status loses_info)
    (IsCodeOf c (nan false 0) inexact_bit true code status loses_info)

-- A value of the format f becomes this code. -0 becomes the only zero. A NaN loses its payload.
abbrev pub IsIntoProjection : Descriptor → Format → Round → Datum → ℕ → ℕ → Bool → Type 0
IsIntoProjection c f mode (nan b s) code status loses_info =
    IsCodeOf c (nan false 0) (invalid_if (is_signaling f s)) (not (eqb (payload_mask f) 0)) code status loses_info
IsIntoProjection c f mode (infinite b) code status loses_info =
    MatchBool (b && not c.signed) (IsWithoutCode c code status loses_info) (IsInfinityOf c b code status loses_info)
IsIntoProjection c f mode (finite b n) code status loses_info =
    MatchBool (eqb n 0)
    (IsCodeOf c (finite false 0) (if b then inexact_bit else ok_bits) b code status loses_info)
    (IsProjectedNumber c f mode b n code status loses_info)

-- ---- neighbours

-- the number of the last point, or of the infinity past it
abbrev pub last_index : Descriptor → ℕ
last_index c = largest_index c + (if c.extended then 1 else 0)

-- the code of a point with a sign; a zero has none
abbrev pub coded : Descriptor → Bool → ℕ → ℕ
coded c negative index = if negative && not (eqb index 0) then unsigned_codes c + index else index

-- The code of the least value that is greater (IEEE 754-2019 5.3.1, nextUp). Past the largest number is the infinity,
-- or the NaN in its place; an infinity there and the NaN stay.
abbrev pub code_above : Descriptor → ℕ → ℕ
code_above c code =
    if eqb code (nan_code c) then code
    else (if is_negative_code c code then coded c true (magnitude_of c code - 1)
    else (if c.extended && eqb code (last_index c) then code else code + 1))

-- The code of the greatest value that is less (nextDown). Without a sign there is nothing below zero but the NaN.
abbrev pub code_below : Descriptor → ℕ → ℕ
code_below c code =
    if eqb code (nan_code c) then code
    else (if is_negative_code c code
    then (if eqb (magnitude_of c code) (last_index c) then (if c.extended then code else nan_code c) else code + 1)
    else (if eqb code 0 then (if c.signed then unsigned_codes c + 1 else nan_code c) else code - 1))
