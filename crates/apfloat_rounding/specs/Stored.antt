-- The stored form of a value, the datum that it represents, and the way back.
use Rattle.std.specs.Prelude.{◌≡◌, ℕ, ◌-◌, ◌*◌, ◌/◌, ◌^◌, ◌<◌, ◌≤◌, ℤ, pos, ◌+ℤ◌, ◌-ℤ◌, ◌≤ℤ◌, Bool, eqb, if◌then◌else◌}
use Rattle.apfloat_model.specs.declared.{kinds.NonfiniteBehavior.TheVariants.IEEE754, status.StatusAnd.StatusAnd}
use Rattle.apfloat_model.specs.declared.kinds.Category.{Category}
use Rattle.apfloat_model.specs.declared.kinds.Category.TheVariants.{Infinity, NaN, Normal, Zero}
use Rattle.apfloat_model.specs.formats.{Format.largest, Datum.Datum, Datum.finite, Datum.infinite, Datum.nan}
use Rattle.apfloat_model.specs.formats.{Members.IsNanSignificand, Members.IsNanOf, Log.log2}
use Rattle.apfloat_model.specs.rounding.{Flags.bits_of, Rounding.zero_sign}
use Rattle.apfloat_model.specs.arithmetic.Exact.{up, down}
use Rattle.apfloat_rounding.specs.{declared.shape.Shape.Shape, declared.unpacked.Unpacked.Unpacked, Shapes.format_at}

-- ---- a nonzero number: significand * 2 ^ (exponent - (precision - 1))

-- a significand with all its digits, and an exponent from that of the quantum to the greatest
pub record IsOperandAt (precision : ℕ) (min_exp max_exp : ℤ) (significand : ℕ) (exponent : ℤ) : Type 0 where
  pub fits : significand < 2 ^ precision
  pub full : 2 ^ (precision - 1) ≤ significand
  pub least : ((min_exp +ℤ pos 1) -ℤ pos precision) ≤ℤ exponent
  pub greatest : exponent ≤ℤ max_exp

-- the number of quanta that it represents
abbrev pub IsQuantaAt : ℤ → ℕ → ℤ → ℕ → Type 0
IsQuantaAt min_exp significand exponent quanta =
    quanta * 2 ^ down (exponent -ℤ min_exp) ≡ significand * 2 ^ up (exponent -ℤ min_exp)

unfoldable pub quanta_at : ℤ → ℕ → ℤ → ℕ
quanta_at min_exp significand exponent = significand * 2 ^ up (exponent -ℤ min_exp) / 2 ^ down (exponent -ℤ min_exp)

-- a number that is an integral number of quanta, at most the largest value
pub record IsNormalAt (s : Shape) (significand : ℕ) (exponent : ℤ) : Type 0 where
  pub operand : IsOperandAt s.precision s.min_exp s.max_exp significand exponent
  pub whole : IsQuantaAt s.min_exp significand exponent (quanta_at s.min_exp significand exponent)
  pub within : quanta_at s.min_exp significand exponent ≤ largest (format_at s)

-- the same statements, of an unpacked value

abbrev pub quanta_of : Shape → Unpacked → ℕ
quanta_of s x = quanta_at s.min_exp x.significand x.exponent

abbrev pub IsNormal : Shape → Unpacked → Type 0
IsNormal s x = IsNormalAt s x.significand x.exponent

abbrev pub number_of : Shape → Unpacked → Datum
number_of s x = finite x.negative (quanta_of s x)

-- ---- the other values: fields that they do not need are zero

pub record IsZero (s : Shape) (x : Unpacked) : Type 0 where
  pub significand_is : x.significand ≡ 0
  pub exponent_is : x.exponent ≡ pos 0
  pub sign_is : x.negative ≡ zero_sign s.nonfinite x.negative

pub record IsInfinity (s : Shape) (x : Unpacked) : Type 0 where
  pub significand_is : x.significand ≡ 0
  pub exponent_is : x.exponent ≡ pos 0
  pub kind : s.nonfinite ≡ IEEE754

-- the digits of a NaN of the shape's format
abbrev pub IsNanSignificandAt : Shape → ℕ → Type 0
IsNanSignificandAt s significand = IsNanSignificand s.nonfinite s.explicit_integer_bit s.precision significand

pub record IsNan (s : Shape) (x : Unpacked) : Type 0 where
  pub exponent_is : x.exponent ≡ pos 0
  pub member : IsNanOf (format_at s) x.negative x.significand

-- ---- by category

abbrev pub IsStoredBy : Category → Shape → Unpacked → Type 0
IsStoredBy Normal s x = IsNormal s x
IsStoredBy Zero s x = IsZero s x
IsStoredBy Infinity s x = IsInfinity s x
IsStoredBy NaN s x = IsNan s x

abbrev pub IsStored : Shape → Unpacked → Type 0
IsStored s x = IsStoredBy x.category s x

abbrev pub datum_by : Category → Shape → Unpacked → Datum
datum_by Normal s x = number_of s x
datum_by Zero s x = finite x.negative 0
datum_by Infinity s x = infinite x.negative
datum_by NaN s x = nan x.negative x.significand

-- the datum that an unpacked value represents
abbrev pub datum_at : Shape → Unpacked → Datum
datum_at s x = datum_by x.category s x

-- a result whose datum and status satisfy the relation
abbrev pub GivesAt : Shape → (Datum → ℕ → Type 0) → StatusAnd Unpacked → Type 0
GivesAt s Says answer = Says (datum_at s answer.value) (bits_of answer.status)

-- ---- the way back

-- the exponent of a number that, counted in quanta, has its highest digit at that place
abbrev pub exponent_at : Shape → ℕ → ℤ
exponent_at s place = (s.min_exp +ℤ pos place) -ℤ pos (s.precision - 1)

abbrev pub nothing_more : Category → Bool → Unpacked
nothing_more category negative =
    record { significand = 0; exponent = pos 0; category = category; negative = negative }

abbrev pub unpacked_number : Shape → Bool → ℕ → Unpacked
unpacked_number s negative quanta =
    record {
      significand = quanta * 2 ^ (s.precision - 1) / 2 ^ log2 quanta;
      exponent = exponent_at s (log2 quanta);
      category = Normal;
      negative = negative;
    }

abbrev pub unpacked_of : Shape → Datum → Unpacked
unpacked_of s (finite b n) = if eqb n 0 then nothing_more Zero b else unpacked_number s b n
unpacked_of s (infinite b) = nothing_more Infinity b
unpacked_of s (nan b t) = record { significand = t; exponent = pos 0; category = NaN; negative = b }
