-- The modes of conversions: which of its two neighbours a magnitude becomes. Of the five modes of IEEE 754 it is the
-- one of `IsPick`.
use Rattle.std.specs.Prelude.{if◌then◌else◌, ◌≡◌, ℕ, ◌+◌, ◌-◌, ◌*◌, ◌/◌, ◌%◌, ◌^◌, Bool, not, leb, eqb}
use Rattle.apfloat_model.specs.declared.kinds.Round.{Round, TheVariants.NearestTiesToEven, TheVariants.TowardZero}
use Rattle.apfloat_model.specs.rounding.{Grid.IsBelow, Grid.IsAbove, Rounding.takes_above}
use Rattle.small_formats.specs.declared.modes.ConversionRound.{ConversionRound}
use Rattle.small_formats.specs.declared.modes.ConversionRound.TheVariants.{Ieee, ToOdd, Stochastic}

-- of 2 ^ digits parts of the distance between two neighbours, how many whole ones a magnitude is above the lower one
abbrev pub parts_above : ℕ → ℕ → ℕ → ℕ
parts_above digits below_by above_by = 2 ^ digits * below_by / (below_by + above_by)

-- Whether the mode takes the neighbour above, with the arguments of `takes_above`. A random number takes it if it
-- reaches the whole distance together with the parts that the magnitude is above the lower neighbour.
abbrev pub takes_next : ConversionRound → Bool → ℕ → ℕ → Bool → Bool
takes_next (Ieee mode) negative below_by above_by odd = takes_above mode negative below_by above_by odd
takes_next ToOdd negative below_by above_by odd = not odd
takes_next (Stochastic bits) negative below_by above_by odd =
    leb (2 ^ bits.digits) (parts_above bits.digits below_by above_by + bits.random)

abbrev pub next_between : ConversionRound → Bool → ℕ → ℕ → ℕ → ℕ → ℕ
next_between mode negative below above amount parts =
    if takes_next mode negative (amount - below * parts) (above * parts - amount)
    (eqb (below / (above - below) % 2) 1) then above else below

-- as `IsPick`
pub record IsPickBy (precision : ℕ) (mode : ConversionRound) (negative : Bool) (amount parts pick : ℕ)
    : Type 0 where
  pub below : ℕ
  pub above : ℕ
  pub is_below : IsBelow precision below amount parts
  pub is_above : IsAbove precision above amount parts
  pub is : pick ≡ next_between mode negative below above amount parts

-- The mode of IEEE 754 that treats a pick past the largest number alike: rounding to odd never leads past it, and
-- random digits lead past it as the modes to nearest do.
abbrev pub ieee_mode : ConversionRound → Round
ieee_mode (Ieee mode) = mode
ieee_mode ToOdd = TowardZero
ieee_mode (Stochastic bits) = NearestTiesToEven
