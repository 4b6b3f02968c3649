-- Answers from bits to bits are unique.
use Rattle.std.specs.Prelude.{◌≡◌, ℕ, ◌<◌}
use Rattle.apfloat_model.specs.arithmetic.{Products.IsProduct, Roots.IsRoot, Sums.IsDifference, Sums.IsSum}
use Rattle.apfloat_model.specs.{declared.kinds.Round.Round, formats.Datum.Datum, formats.Format.Format}
use Rattle.apfloat_model.specs.formats.Lawful.{Constants, IsLawful, format_with}
use Rattle.apfloat_model.specs.{rounding.Flags.bits_of, whole_numbers.WholeNumbers.IsRoundToIntegral}
use Rattle.fast_bits.specs.{declared.encoded.Encoded.Encoded, Encoded.IsEncodedAnswer, Encoded.value_in}

-- in a lawful format with bits, two answers of an operation on the values that two bit patterns encode are the same
abbrev pub IsEncodedOnce : (Format → Round → Datum → Datum → Datum → ℕ → Type 0) → Type 0
IsEncodedOnce Says =
    (c : Constants) (mode : Round) (x y : ℕ) (first second : Encoded) → IsLawful c → c.precision < c.bits
    → IsEncodedAnswer c (Says (format_with c) mode (value_in c x) (value_in c y)) first
    → IsEncodedAnswer c (Says (format_with c) mode (value_in c x) (value_in c y)) second
    → (first.bits ≡ second.bits) × (bits_of first.status ≡ bits_of second.status)

-- the same for an operation on one value
abbrev pub IsEncodedOnceOfOne : (Format → Round → Datum → Datum → ℕ → Type 0) → Type 0
IsEncodedOnceOfOne Says =
    (c : Constants) (mode : Round) (x : ℕ) (first second : Encoded) → IsLawful c → c.precision < c.bits
    → IsEncodedAnswer c (Says (format_with c) mode (value_in c x)) first
    → IsEncodedAnswer c (Says (format_with c) mode (value_in c x)) second
    → (first.bits ≡ second.bits) × (bits_of first.status ≡ bits_of second.status)

pub record AreEncodedOnce : Type 0 where
  pub sums : IsEncodedOnce IsSum
  pub differences : IsEncodedOnce IsDifference
  pub products : IsEncodedOnce IsProduct
  pub roots : IsEncodedOnceOfOne IsRoot
  pub integral_values : IsEncodedOnceOfOne IsRoundToIntegral
