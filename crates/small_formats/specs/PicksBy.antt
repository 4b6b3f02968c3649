-- A pick of a mode of conversions by the index of its point; and the same decision for a cut, where nothing may be
-- left.
use Rattle.std.specs.Prelude.{if◌then◌else◌, ◌≡◌, ℕ, ◌*◌, Bool, false, eqb}
use Rattle.std.specs.Bool.{MatchBool}
use Rattle.small_formats.specs.{declared.modes.ConversionRound.ConversionRound, Codes.point, IndexPicks.IsIndexPick}
use Rattle.small_formats.specs.Modes.{IsPickBy, takes_next}

-- whether a magnitude moves to the point above it; one that is a point does not
abbrev pub moves : ConversionRound → Bool → ℕ → ℕ → Bool → Bool
moves mode negative below_by above_by odd =
    if eqb below_by 0 then false else takes_next mode negative below_by above_by odd

-- the index of one of the two points around a magnitude; the index says which is odd
abbrev pub IsCodePickBy : ℕ → ConversionRound → Bool → ℕ → ℕ → ℕ → Type 0
IsCodePickBy precision mode negative amount parts index =
    IsIndexPick (takes_next mode negative) (point precision) amount parts index

-- The index of the point that is picked. A significand of one digit is always odd, so there the index decides.
abbrev pub IsPointPickBy : ℕ → ConversionRound → Bool → ℕ → ℕ → ℕ → Type 0
IsPointPickBy precision mode negative amount parts index =
    MatchBool (eqb precision 1) (IsCodePickBy precision mode negative amount parts index)
    (IsPickBy precision mode negative amount parts (point precision index))

-- the point with that index is picked, and is the magnitude itself or not
pub record IsPointAt (precision : ℕ) (mode : ConversionRound) (negative : Bool) (amount parts index : ℕ)
    (exact : Bool) : Type 0 where
  pub is_pick : IsPointPickBy precision mode negative amount parts index
  pub exact_is : exact ≡ eqb (point precision index * parts) amount
