-- One value into a storage format or out of it, by its bits.
use Rattle.std.specs.Prelude.{ℕ, ◌%◌}
use Rattle.rustc_apfloat.specs.declared.Round.{Round}
use Rattle.formats_at_run_time.specs.{BuiltIns.constants_in, FlaggedKinds.flagged_constants}
use Rattle.small_formats.specs.declared.saturation.Overflow.{Overflow}
use Rattle.apfloat_arrays.specs.declared.counts.Outcome.{Outcome}
use Rattle.apfloat_arrays.specs.declared.stored.array.Ends.{Ends, TheVariants.Into, TheVariants.OutOf}
use Rattle.apfloat_arrays.specs.stored.Arrays.{IsLoaded, IsStoredAs}

-- as `IsConvertedAt`; a code is the lowest byte of its bits
abbrev pub IsConvertedNumber : Overflow → Round → Ends → ℕ → ℕ → Outcome → Type 0
IsConvertedNumber overflow mode (Into source target) bits code outcome =
    IsStoredAs overflow (constants_in source) target mode bits code outcome
IsConvertedNumber overflow mode (OutOf source target) bits value outcome =
    IsLoaded overflow source (flagged_constants target) mode (bits % 256) value outcome
