-- The conversion of the value of some bits is unique.
use Rattle.std.proofs.Common.{◌≡◌, ℕ, ◌%◌}
use Rattle.rustc_apfloat.specs.declared.Round.{Round}
use Rattle.formats_at_run_time.specs.{BuiltIns.constants_in, FlaggedKinds.flagged_constants}
use Rattle.formats_at_run_time.proofs.FormatLaws.{format_law}
use Rattle.small_formats.specs.declared.saturation.Overflow.{Overflow}
use Rattle.apfloat_arrays.specs.declared.counts.Outcome.{Outcome}
use Rattle.apfloat_arrays.specs.declared.stored.array.Ends.{Ends, TheVariants.Into, TheVariants.OutOf}
use Rattle.apfloat_arrays.specs.stored.Numbers.{IsConvertedNumber}
use Rattle.apfloat_arrays.proofs.stored_lemmas.StoredOnce.{loaded_once, stored_once}

pub converted_number_once : (overflow : Overflow) (mode : Round) (ends : Ends) (bits value other : ℕ)
    (outcome also : Outcome) → IsConvertedNumber overflow mode ends bits value outcome
    → IsConvertedNumber overflow mode ends bits other also → (value ≡ other) × (outcome ≡ also)
converted_number_once overflow mode (Into source target) bits value other outcome also h j =
    stored_once overflow (constants_in source) target mode bits value other outcome also h j
converted_number_once overflow mode (OutOf source target) bits value other outcome also h j =
    let law = format_law target in
    loaded_once overflow source (flagged_constants target) mode (bits % 256) value other outcome also law.law law.wide
    h j
