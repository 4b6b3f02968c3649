-- Tables of the results of an operation on two values of 8 bits.
use Rattle.std.specs.Prelude.{ℕ, ◌/◌, ◌%◌, List, [], ◌∷◌}
use Rattle.apfloat_arrays.specs.{declared.Tally.Tally, Entries.HasEntry, Entries.IsEntryTable, Tallies.tally_of}
use Rattle.arrays_for_c.specs.{declared.array_calls.MapCall.MapCall, declared.array_data.Element.Element}
use Rattle.arrays_for_c.specs.Arrays.{IsElement}

-- the operands are the quotient and the rest of the place by 256
abbrev pub IsResultAt : MapCall → ℕ → ℕ → Element → Type 0
IsResultAt map place result element = IsElement map (place / 256) (place % 256) 0 (result ∷ []) element

abbrev pub element_tally : Element → Tally
element_tally element = tally_of element.status element.is_nan

-- the entry of a place
abbrev pub IsEntry : MapCall → ℕ → List ℕ → Element → Type 0
IsEntry map place bytes element = HasEntry (IsResultAt map) element_tally place bytes element

-- the entries of the first places
abbrev pub IsTable : MapCall → ℕ → List ℕ → Type 0
IsTable map count table = IsEntryTable (IsResultAt map) element_tally count table
