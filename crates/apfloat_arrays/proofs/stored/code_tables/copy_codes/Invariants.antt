use Rattle.std.proofs.Common.{◌≡◌, ◌*◌, ◌^◌, ◌≤◌, length}
use Rattle.rustc_apfloat.specs.{Lawful.Constants, declared.Round.Round}
use Rattle.small_formats.specs.declared.saturation.Overflow.{Overflow}
use Rattle.apfloat_arrays.specs.declared.stored.formats.StoredFormat.{StoredFormat}
use Rattle.apfloat_arrays.specs.stored.{CodeTables.AreCodeEntries, Formats.bits_in}
use Rattle.apfloat_arrays.proofs.stored.code_tables.copy_codes.Given as goal

abbrev pub invariant-loop-place : goal.invariant-loop-place
invariant-loop-place l =
    (l.fn.codes ≤ l.place) × (length l.table ≡ 256 * 8)
    × ((overflow : Overflow) (format : StoredFormat) (d : Constants) (mode : Round)
    → l.fn.codes ≡ 2 ^ bits_in format → AreCodeEntries overflow format d mode l.fn.codes l.fn.table
    → AreCodeEntries overflow format d mode l.place l.table)
