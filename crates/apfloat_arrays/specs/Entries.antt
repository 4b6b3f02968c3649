-- Tables of results with their tallies, and results that are looked up in them.
use Rattle.std.specs.Prelude.{◌≡◌, ℕ, ◌+◌, ◌*◌, ◌/◌, ◌%◌, ◌^◌, ◌<◌, List, length}
use Rattle.apfloat_arrays.specs.{declared.tallies.Tally.Tally, Blocks.AreInPlaces, Blocks.value_at, Bytes.number_of}
use Rattle.apfloat_arrays.specs.Tallies.{AreTalliesAtMost, packed_of, total}

-- the entry of a place
abbrev pub entry_of : List ℕ → ℕ → ℕ
entry_of table place = number_of (value_at 8 place table)

-- an entry is a result of at most 32 bits, and above it the packed tally of one result
pub record IsEntry (entry result : ℕ) (tally : Tally) : Type 0 where
  pub parts : entry ≡ result + 2 ^ 32 * packed_of tally
  pub result_fits : result < 2 ^ 32
  pub few : AreTalliesAtMost 1 tally

-- the same of a result that fits in so many bytes
pub record IsEntryOf (width entry : ℕ) : Type 0 where
  pub result : ℕ
  pub tally : Tally
  pub is_entry : IsEntry entry result tally
  pub fits : result < 256 ^ width

-- each place has an entry
pub record AreEntries (width size : ℕ) (table : List ℕ) : Type 0 where
  pub room : length table ≡ size * 8
  pub each : (place : ℕ) → place < size → IsEntryOf width (entry_of table place)

-- the entry in a place: a result for the place, and the tally of its outcome
pub record HasEntry {O : Type 0} (Answers : ℕ → ℕ → O → Type 0) (tally : O → Tally) (place : ℕ)
    (bytes : List ℕ)
    (outcome : O) : Type 0 where
  pub result : ℕ
  pub is_answer : Answers place result outcome
  pub is_entry : IsEntry (number_of bytes) result (tally outcome)

-- the entries of the first places
pub record IsEntryTable {O : Type 0} (Answers : ℕ → ℕ → O → Type 0) (tally : O → Tally) (size : ℕ)
    (table : List ℕ) : Type 0 where
  pub outcomes : List O
  pub places : AreInPlaces (HasEntry Answers tally) 8 size table outcomes

-- the results are those in the places of the first values, and this is their tally
pub record AreLookedUp (place : ℕ → ℕ) (size width count : ℕ) (table output : List ℕ) (tally : Tally)
    : Type 0 where
  pub within : (index : ℕ) → index < count → place index < size
  pub each : (index : ℕ) → index < count
      → number_of (value_at width index output) ≡ entry_of table (place index) % 2 ^ 32
  pub tally_is : tally ≡ total (λ index. entry_of table (place index) / 2 ^ 32) count
  pub most : AreTalliesAtMost count tally
