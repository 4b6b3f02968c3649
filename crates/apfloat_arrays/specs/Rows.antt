-- Values given by their places, converted in consecutive bytes; and blocks in which zeros stand for infinities and NaNs
-- until these are converted.
use Rattle.std.specs.Prelude.{◌≡◌, ℕ, ◌*◌, ◌%◌, ◌^◌, ◌<◌, ◌||◌, ltb, if◌then◌else◌, List, [], slice_index}
use Rattle.apfloat_arrays.specs.{Blocks.AreInPlaces, Blocks.value_at, Bytes.number_of, Outcomes.counts_of}
use Rattle.apfloat_arrays.specs.declared.counts.{Outcome.Outcome, Counts.Counts}

-- the relation between the given value of a place, the bytes there and the outcome holds for each place
pub record IsRow (Holds : List ℕ → List ℕ → Outcome → Type 0) (given : ℕ → List ℕ) (width count : ℕ)
    (output : List ℕ) (counts : Counts) : Type 0 where
  pub outcomes : List Outcome
  pub places : AreInPlaces (λ index bytes outcome. Holds (given index) bytes outcome) width count output outcomes
  pub counted : counts ≡ counts_of outcomes

-- the single of that place, or zero, which no bytes encode too, for an infinity or a NaN after the first `done` values
abbrev pub number_from : ℕ → List ℕ → ℕ → List ℕ
number_from done input index =
    if ltb index done || ltb (number_of (value_at 4 index input) % 2 ^ 31) (255 * 2 ^ 23) then value_at 4 index input
    else []

-- the upper half of the bits of a single, or 0 for an infinity or a NaN
abbrev pub number_in : ℕ → ℕ
number_in half = if ltb (half % 2 ^ 15) (255 * 2 ^ 7) then half else 0

-- the lower half that goes with it
abbrev pub lower_in : ℕ → ℕ → ℕ
lower_in upper lower = if ltb (upper % 2 ^ 15) (255 * 2 ^ 7) then lower else 0

-- none of so many upper halves is that of an infinity or a NaN
abbrev pub AreFiniteHalves : ℕ → List ℕ → Type 0
AreFiniteHalves count halves = (index : ℕ) → index < count → slice_index halves index % 2 ^ 15 < 255 * 2 ^ 7

-- these halves are taken of the words of so many given values
abbrev pub AreTaken : (ℕ → ℕ → ℕ → Type 0) → ℕ → List ℕ → List ℕ → (ℕ → List ℕ) → Type 0
AreTaken Takes count uppers lowers given =
    (index : ℕ) → index < count
    → Takes (slice_index uppers index) (slice_index lowers index) (number_of (given index))
