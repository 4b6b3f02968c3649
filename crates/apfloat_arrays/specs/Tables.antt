-- Tables of results, each in the place of the bits that it is the result for.
use Rattle.std.specs.Prelude.{ℕ, List}
use Rattle.rustc_apfloat.specs.Flags.{bits_of}
use Rattle.apfloat_arrays.specs.declared.{counts.Outcome.Outcome, tallies.Tally.Tally}
use Rattle.apfloat_arrays.specs.{Blocks.AreInPlaces, Bytes.number_of, Entries.IsEntryTable, Tallies.tally_of}

-- the bytes of a result for the bits of a value, by what is said of the bits of both
abbrev pub IsConvertedIn : (ℕ → ℕ → Outcome → Type 0) → List ℕ → List ℕ → Outcome → Type 0
IsConvertedIn Gives input output outcome = Gives (number_of input) (number_of output) outcome

-- the results for the first `count` places, each in `width` bytes
abbrev pub IsTable : (ℕ → ℕ → Outcome → Type 0) → ℕ → ℕ → List ℕ → List Outcome → Type 0
IsTable Gives width count values outcomes =
    AreInPlaces (λ place bytes outcome. Gives place (number_of bytes) outcome) width count values outcomes

abbrev pub outcome_tally : Outcome → Tally
outcome_tally outcome = tally_of (bits_of outcome.status) outcome.is_nan

-- the entries of the results for the first `count` places
abbrev pub IsResultTable : (ℕ → ℕ → Outcome → Type 0) → ℕ → List ℕ → Type 0
IsResultTable Gives count table = IsEntryTable Gives outcome_tally count table
