-- Definitions for the plain program for one rounding.
use Rattle.std.specs.Prelude.{◌≡◌, ℕ, ◌-◌, ◌*◌, ◌^◌, ◌<◌, ◌≤◌, ◌⊎◌, Bool, ltb, if◌then◌else◌}
use Rattle.apfloat_model.specs.declared.kinds.{NonfiniteBehavior.NonfiniteBehavior, Round.Round}
use Rattle.rustc_apfloat.specs.{Rounding.rounds_below_normal, Datum.Datum, Datum.finite, Datum.infinite, Datum.nan}
use Rattle.rustc_apfloat.specs.Format.{Format, smallest_normalized, largest, nan_base_of}
use Rattle.tests.specs.declared.plain.{RoundedValue.TheVariants.NotANumber, Bounds.Bounds}
use Rattle.tests.specs.declared.plain.RoundedValue.{RoundedValue, TheVariants.Finite, TheVariants.Infinite}

-- small enough that no product exceeds 128 bits
pub record IsSmall (precision amount parts : ℕ) : Type 0 where
  pub some_digits : 3 ≤ precision
  pub few_digits : precision ≤ 60
  pub amount_bound : amount < 2 ^ 126
  pub some_parts : 0 < parts
  pub parts_bound : parts < 2 ^ 64

-- The distance between neighbouring grid points around amount / parts: a power of two. The magnitude is less than 2 ^
-- precision spacings, and at least half of that unless the spacing is 1.
pub record IsSpacing (precision amount parts spacing : ℕ) : Type 0 where
  pub place : ℕ
  pub is : spacing ≡ 2 ^ place
  pub few : amount < 2 ^ precision * (parts * spacing)
  pub many : (place ≡ 0) ⊎ (2 ^ (precision - 1) * (parts * spacing) ≤ amount)

-- a format that has these bounds
pub record HasBounds (f : Format) (b : Bounds) : Type 0 where
  pub precision : f.precision ≡ b.precision
  pub largest : largest f ≡ b.largest
  pub smallest_normalized : smallest_normalized f ≡ b.smallest_normalized
  pub nonfinite : f.nonfinite ≡ b.nonfinite
  pub tiny_before_rounding : f.tiny_before_rounding ≡ b.tiny_before_rounding
  pub ieee_flags : f.ieee_flags ≡ b.ieee_flags

abbrev pub tiny_of : Bounds → Round → Bool → ℕ → ℕ → ℕ → Bool
tiny_of b mode negative amount parts pick =
    if b.tiny_before_rounding then ltb amount (b.smallest_normalized * parts)
    else (if b.ieee_flags then rounds_below_normal b.precision mode negative amount parts
    else ltb pick b.smallest_normalized)

-- the datum of a result, in a format of this kind and precision
abbrev pub datum_of : NonfiniteBehavior → ℕ → RoundedValue → Datum
datum_of kind precision (Finite negative quanta) = finite negative quanta
datum_of kind precision (Infinite negative) = infinite negative
datum_of kind precision (NotANumber negative) = nan negative (nan_base_of kind precision)
