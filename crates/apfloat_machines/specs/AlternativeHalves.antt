-- Arm's alternative half precision (FPCR.AHP): 16 bits, of which the greatest exponent is one of numbers, too.
use Rattle.std.specs.Prelude.{◌≡◌, ℕ, ◌+◌, ◌-◌, ◌^◌, ◌<◌, ltb, pos, negsuc, Bool, true, false, if◌then◌else◌}
use Rattle.std.specs.Bool.{MatchBool}
use Rattle.apfloat_model.specs.declared.kinds.{Round.Round, NonfiniteBehavior.TheVariants.IEEE754}
use Rattle.apfloat_model.specs.formats.{Format.Format, Datum.Datum, Datum.finite, Datum.infinite, Datum.nan}
use Rattle.apfloat_model.specs.formats.{Lawful.Constants, Lawful.format_with, Nan.invalid_bit}
use Rattle.apfloat_model.specs.{bits.Layout.fields_of, bits.Layout.implied_number, arithmetic.Conversions.IsConversion}

-- a format with the same numbers, and greater ones
abbrev pub wide_constants : Bool → Constants
wide_constants tiny_before =
    record {
      bits = 17;
      exp_bits = 6;
      precision = 11;
      nonfinite = IEEE754;
      max_exp = pos 47;
      ieee_max_exp = pos 31;
      min_exp = negsuc 13;
      ieee_min_exp = negsuc 29;
      nan_significand_base = 0;
      nan_payload_mask = 2 ^ 10 - 1;
      qnan_significand = 2 ^ 9;
      explicit_integer_bit = false;
      tiny_before_rounding = tiny_before;
      ieee_flags = true;
    }

abbrev pub wide_half : Bool → Format
wide_half tiny_before = format_with (wide_constants tiny_before)

-- the number of 16 bits, five of them the exponent
abbrev pub number_coded : ℕ → Datum
number_coded bits =
    let f = wide_half true in
    implied_number f (fields_of f (record { bits = 16; exponent_bits = 5 }) bits)

abbrev pub zero_code : Bool → ℕ
zero_code negative = if negative then 2 ^ 15 else 0

abbrev pub greatest_code : Bool → ℕ
greatest_code negative = zero_code negative + (2 ^ 15 - 1)

-- whether a datum of the wide format has a code: its magnitude is below 2 ^ 17
abbrev pub has_code : Datum → Bool
has_code (finite b n) = ltb n (2 ^ 41)
has_code (infinite b) = false
has_code (nan b s) = false

-- a number rounded once, tininess detected as in f; if it then has no code, the greatest one, which is invalid
pub record IsNumberCoded (f : Format) (mode : Round) (negative : Bool) (quanta bits status : ℕ) : Type 0 where
  pub rounded : Datum
  pub flags : ℕ
  pub loses : Bool
  pub is_rounded : IsConversion f (wide_half f.tiny_before_rounding) mode (finite negative quanta) rounded flags loses
  pub is_coded : MatchBool (has_code rounded)
      ((bits < 2 ^ 16) × ((number_coded bits ≡ rounded) × (status ≡ flags)))
      ((bits ≡ greatest_code negative) × (status ≡ invalid_bit))

-- a datum of f in these bits; an infinity and a NaN are invalid
abbrev pub IsAlternativeHalf : Format → Round → Datum → ℕ → ℕ → Type 0
IsAlternativeHalf f mode (finite b n) bits status = IsNumberCoded f mode b n bits status
IsAlternativeHalf f mode (infinite b) bits status = (bits ≡ greatest_code b) × (status ≡ invalid_bit)
IsAlternativeHalf f mode (nan b s) bits status = (bits ≡ zero_code b) × (status ≡ invalid_bit)

-- the number of these bits in a format g
abbrev pub IsOfAlternativeHalf : Format → Round → ℕ → Datum → ℕ → Type 0
IsOfAlternativeHalf g mode bits value status =
    (loses : Bool) × IsConversion (wide_half true) g mode (number_coded bits) value status loses
