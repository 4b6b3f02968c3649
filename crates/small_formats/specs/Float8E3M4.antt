-- `e3m4`: eight bits, three of them the exponent, with the infinities and NaNs of IEEE 754. Its definitions are those
-- of the model. Its greatest exponent is below its precision, so 15.5 rounds to an integer past the largest number.
use Rattle.std.specs.Prelude.{◌≡◌, ◌⊎◌, ℕ, ◌+◌, ◌-◌, ◌*◌, ◌/◌, ◌%◌, ◌<◌, ◌≤◌, Bool, ltb, if◌then◌else◌, false}
use Rattle.apfloat_model.specs.{arithmetic.Conversions.IsConversion, formats.Datum.Datum, formats.Format.Format}
use Rattle.apfloat_model.specs.declared.kinds.{NonfiniteBehavior.TheVariants.IEEE754, Round.Round}
use Rattle.apfloat_model.specs.bits.Layout.{Layout, datum_of}

-- with a greatest exponent that is so many above the least one
abbrev format_of_span : ℕ → Format
format_of_span span =
    record {
      precision = 5;
      scale = 6;
      span = span;
      nonfinite = IEEE754;
      explicit_integer_bit = false;
      tiny_before_rounding = false;
      ieee_flags = false;
    }

abbrev pub e3m4_format : Format
e3m4_format = format_of_span 5

abbrev pub e3m4_layout : Layout
e3m4_layout = record { bits = 8; exponent_bits = 3 }

abbrev pub e3m4_datum : ℕ → Datum
e3m4_datum code = datum_of e3m4_format e3m4_layout code

-- the same digits with one bit of exponent more, which is a lawful format
abbrev pub wide_format : Format
wide_format = format_of_span 13

abbrev pub wide_layout : Layout
wide_layout = record { bits = 9; exponent_bits = 4 }

abbrev pub wide_datum : ℕ → Datum
wide_datum code = datum_of wide_format wide_layout code

-- a code with one bit of exponent more: that of an infinity or a NaN has its greatest exponent
abbrev pub widened : ℕ → ℕ
widened code = code / 128 * 256 + (if ltb (code % 128) 112 then code % 128 else code % 128 + 128)

-- the code of a wide value that is an infinity, a NaN, or at most 15.5
abbrev pub narrowed : ℕ → ℕ
narrowed code = code / 256 * 128 + (if ltb (code % 256) 112 then code % 256 else code % 256 - 128)

-- a code of nine bits that has one of eight
pub record IsNarrow (code : ℕ) : Type 0 where
  pub below : code < 512
  pub is : (code % 256 < 112) ⊎ (240 ≤ code % 256)

-- of a conversion the code, the flags and the loss of information are determined
abbrev pub IsE3M4Once : Type 0
IsE3M4Once =
    (f : Format) (mode : Round) (x : Datum) (code other status flags : ℕ) (loses lost : Bool)
    → code < 256 → other < 256 → IsConversion f e3m4_format mode x (e3m4_datum code) status loses
    → IsConversion f e3m4_format mode x (e3m4_datum other) flags lost
    → (code ≡ other) × (status ≡ flags) × (loses ≡ lost)
