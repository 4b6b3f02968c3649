-- Magnitudes in the quanta of a format, with sixteen binary digits below its own.
use Rattle.std.specs.Prelude.{◌≡◌, ℕ, ◌+◌, ◌-◌, ◌*◌, ◌/◌, ◌%◌, ◌^◌, ◌<◌, ◌≤◌, ◌⊎◌}
use Rattle.apfloat_model.specs.{formats.Format.Format, rounding.Enclosure.IsEnclosed, rounding.Standing.StandsFor}
use Rattle.apfloat_rounding.specs.Cuts.{loss_at}

-- What is kept of amount / parts quanta: a significand at a place, with the loss of a rest in units of which the lowest
-- kept digit is 2 ^ low. The place and the significand, added, are what is above the rest.
pub record IsScaled (precision low t amount parts : ℕ) : Type 0 where
  pub place : ℕ
  pub kept : ℕ
  pub code : t / 2 ^ low ≡ place * 2 ^ (precision - 1) + kept
  pub fits : kept < 2 ^ precision
  pub full : (place ≡ 0) ⊎ (2 ^ (precision - 1) ≤ kept)
  pub enclosed : IsEnclosed precision (2 ^ (precision - 1)) kept place amount parts
  pub stands : StandsFor kept (loss_at (t % 2 ^ low) (2 ^ (low - 1))) amount (2 ^ place * parts)

-- a magnitude past all values
pub record IsPastTarget (f : Format) (amount parts : ℕ) : Type 0 where
  pub some : 0 < parts
  pub from : 2 ^ (f.precision + f.span) * parts ≤ amount

-- the same for the magnitude itself, or, if that is past all values, for another one past them
pub record IsReachedLane (f : Format) (t amount parts : ℕ) : Type 0 where
  pub reached : ℕ
  pub scaled : IsScaled f.precision 16 t reached parts
  pub alike : (reached ≡ amount) ⊎ (IsPastTarget f reached parts × IsPastTarget f amount parts)
