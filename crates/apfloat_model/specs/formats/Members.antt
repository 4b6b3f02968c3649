-- The data that a format has (IEEE 754-2019 3.3).
use Rattle.std.specs.Prelude.{◌≡◌, ◌≢◌, ℕ, ◌-◌, ◌^◌, ◌<◌, ◌≤◌, Bool, true, false}
use Rattle.apfloat_model.specs.declared.kinds.NonfiniteBehavior.{NonfiniteBehavior}
use Rattle.apfloat_model.specs.declared.kinds.NonfiniteBehavior.TheVariants.{IEEE754, NanOnly, NanNegativeZero}
use Rattle.apfloat_model.specs.formats.Format.{Format, largest, nan_base_of}
use Rattle.apfloat_model.specs.formats.Datum.{Datum, finite, infinite, nan}
use Rattle.apfloat_model.specs.{formats.Nan.nan_sign, rounding.Grid.IsOnGrid, rounding.Rounding.zero_sign}

pub record IsFiniteOf (f : Format) (negative : Bool) (quanta : ℕ) : Type 0 where
  pub on_grid : IsOnGrid f.precision quanta
  pub within : quanta ≤ largest f
  pub zero_has : quanta ≡ 0 → negative ≡ zero_sign f.nonfinite negative

-- the significands that a NaN may have
abbrev pub IsNanSignificand : NonfiniteBehavior → Bool → ℕ → ℕ → Type 0
IsNanSignificand IEEE754 false precision significand = (0 < significand) × (significand < 2 ^ (precision - 1))
IsNanSignificand IEEE754 true precision significand =
    (significand < 2 ^ precision) × (significand ≢ 2 ^ (precision - 1))
IsNanSignificand NanOnly explicit precision significand = significand ≡ nan_base_of NanOnly precision
IsNanSignificand NanNegativeZero explicit precision significand = significand ≡ 0

pub record IsNanOf (f : Format) (negative : Bool) (significand : ℕ) : Type 0 where
  pub significand_is : IsNanSignificand f.nonfinite f.explicit_integer_bit f.precision significand
  pub sign_is : negative ≡ nan_sign f.nonfinite negative

abbrev pub IsMember : Format → Datum → Type 0
IsMember f (finite negative quanta) = IsFiniteOf f negative quanta
IsMember f (infinite negative) = f.nonfinite ≡ IEEE754
IsMember f (nan negative significand) = IsNanOf f negative significand
