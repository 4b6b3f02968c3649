-- What a format is, by its code.
use Rattle.std.specs.Prelude.{◌≡◌, ℕ, Result, Ok, Err}
use Rattle.formats_at_run_time.specs.{declared.BuiltInFormat.BuiltInFormat, BuiltIns.constants_in}
use Rattle.apfloat_arrays.specs.{declared.widths.Extended.TheVariants.Packed, Widths.width_of}
use Rattle.coded_calls.specs.{declared.facts.Facts.Facts, Facts.AreFacts, Facts.SameFacts, KnownCalls.answered}

-- the code 0 and the facts, or the code of the error and the previous contents
abbrev pub AreFactsWritten : Result BuiltInFormat ℕ → Facts → Facts → ℕ → Type 0
AreFactsWritten (Err error) old new code = (code ≡ error) × (new ≡ old)
AreFactsWritten (Ok format) old new code =
    (code ≡ answered) × AreFacts (constants_in format) (width_of format Packed) new

abbrev pub AreFactsOnce : Type 0
AreFactsOnce =
    (format : Result BuiltInFormat ℕ) (old first second : Facts) (code other : ℕ)
    → AreFactsWritten format old first code → AreFactsWritten format old second other
    → (code ≡ other) × SameFacts first second
