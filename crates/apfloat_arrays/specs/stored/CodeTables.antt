-- Tables of what codes of a storage format become.
use Rattle.std.specs.Prelude.{ℕ, List}
use Rattle.rustc_apfloat.specs.{declared.Round.Round, Lawful.Constants}
use Rattle.small_formats.specs.declared.saturation.Overflow.{Overflow}
use Rattle.apfloat_arrays.specs.{declared.stored.formats.StoredFormat.StoredFormat, Tables.IsResultTable}
use Rattle.apfloat_arrays.specs.stored.Arrays.{IsLoaded}

-- the entries of the bytes below `size`
abbrev pub AreCodeEntries : Overflow → StoredFormat → Constants → Round → ℕ → List ℕ → Type 0
AreCodeEntries overflow format d mode size table = IsResultTable (IsLoaded overflow format d mode) size table
