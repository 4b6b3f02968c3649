-- Theorems about the modes of conversions.
use Rattle.std.specs.Prelude.{if◌then◌else◌, ◌≡◌, ℕ, zero, suc, ◌+◌, ◌-◌, ◌*◌, ◌^◌, ◌<◌, Bool, ltb}
use Rattle.apfloat_model.specs.{declared.kinds.Round.Round, formats.Datum.Datum, formats.Format.Format}
use Rattle.apfloat_model.specs.rounding.{Grid.IsOnGrid, Grid.IsBelow, Grid.IsAbove, Rounding.IsPick}
use Rattle.small_formats.specs.{Conversions.IsInto, ModeConversions.IsIntoBy, Modes.IsPickBy, Modes.parts_above}
use Rattle.small_formats.specs.declared.modes.{ConversionRound.TheVariants.Stochastic, NanResult.NanResult}
use Rattle.small_formats.specs.declared.modes.{NanResult.TheVariants.Zero, RandomDigits.RandomDigits}
use Rattle.small_formats.specs.declared.modes.ConversionRound.{ConversionRound, TheVariants.Ieee}
use Rattle.small_formats.specs.Storage.{StorageConstants, IsLawfulStorage}

-- how many of the numbers below `bound` pass the test
abbrev pub count_below : (ℕ → Bool) → ℕ → ℕ
count_below test zero = 0
count_below test (suc n) = (if test n then 1 else 0) + count_below test n

-- all random numbers of that many digits, each in its place
abbrev pub AreAllRandom : ℕ → (ℕ → RandomDigits) → Type 0
AreAllRandom digits bits = (random : ℕ) → random < 2 ^ digits
    → ((bits random).digits ≡ digits) × ((bits random).random ≡ random)

-- Of the 2 ^ digits random numbers, exactly as many pick the neighbour above as the magnitude has whole parts of the
-- distance above its lower neighbour: the mean of the picks is the magnitude, but for less than one part.
abbrev pub AreRandomNumbersCounted : Type 0
AreRandomNumbersCounted =
    (precision digits below above amount parts : ℕ) (negative : Bool) (bits : ℕ → RandomDigits) (pick : ℕ → ℕ)
    → 0 < parts → below < above → IsBelow precision below amount parts → IsAbove precision above amount parts
    → AreAllRandom digits bits
    → ((random : ℕ) → random < 2 ^ digits
    → IsPickBy precision (Stochastic (bits random)) negative amount parts (pick random))
    → count_below (λ random. ltb below (pick random)) (2 ^ digits)
    ≡ parts_above digits (amount - below * parts) (above * parts - amount)

-- a number that is a point of the grid is picked, in each mode and with each random number
abbrev pub StaysExact : Type 0
StaysExact =
    (precision : ℕ) (mode : ConversionRound) (negative : Bool) (point amount parts pick : ℕ) → 0 < parts
    → IsOnGrid precision point → amount ≡ point * parts → IsPickBy precision mode negative amount parts pick
    → pick ≡ point

-- the picks of the five modes are those of the model
abbrev pub ArePicksOfModel : Type 0
ArePicksOfModel =
    (precision : ℕ) (mode : Round) (negative : Bool) (amount parts pick : ℕ)
    → IsPickBy precision (Ieee mode) negative amount parts pick → IsPick precision mode negative amount parts pick

-- and so are conversions by them, if a NaN becomes zero
abbrev pub IsIntoOfModel : Type 0
IsIntoOfModel =
    (c : StorageConstants) (f : Format) (mode : Round) (x : Datum) (code status : ℕ) (loses : Bool)
    → IsIntoBy c f (Ieee mode) Zero x code status loses → IsInto c f mode x code status loses

-- the code, the flags and the loss of information are determined
abbrev pub IsIntoByOnce : Type 0
IsIntoByOnce =
    (c : StorageConstants) (f : Format) (mode : ConversionRound) (nans : NanResult) (x : Datum)
    (code other status flags : ℕ) (loses lost : Bool) → IsLawfulStorage c → code < 2 ^ c.bits → other < 2 ^ c.bits
    → IsIntoBy c f mode nans x code status loses → IsIntoBy c f mode nans x other flags lost
    → (code ≡ other) × (status ≡ flags) × (loses ≡ lost)
