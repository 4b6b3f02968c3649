-- Calls that convert one value into a storage format or out of it.
use Rattle.std.specs.Prelude.{◌≡◌, ℕ, Option, ok_or, Result, Ok, Err}
use Rattle.rustc_apfloat.specs.Flags.{bits_of}
use Rattle.formats_at_run_time.specs.declared.FlaggedKind.{FlaggedKind, TheVariants.OfFormat, TheVariants.Pairs}
use Rattle.formats_at_run_time.specs.FlaggedKinds.{format_without_rule}
use Rattle.apfloat_arrays.specs.declared.{Outcome.Outcome, Extended.TheVariants.Packed, stored.Ends.Ends}
use Rattle.apfloat_arrays.specs.declared.stored.Ends.TheVariants.{Into, OutOf}
use Rattle.apfloat_arrays.specs.declared.stored.{StorageArray.StorageArray, StoredFormat.StoredFormat}
use Rattle.apfloat_arrays.specs.stored.Numbers.{IsConvertedNumber}
use Rattle.arrays_for_c.specs.declared.array_calls.ConversionMode.{ConversionMode}
use Rattle.coded_calls.specs.{OneReply.SameAnswer, declared.data.Answer.Answer, Answers.one_if, Answers.whole}
use Rattle.coded_calls.specs.KnownCalls.{◌>>=◌, answered, no_such_operation, unknown_format, unknown_mode}

-- ---- what is asked for

abbrev pub between : Ends → ConversionMode → StorageArray
between ends mode = record { ends = ends; extended = Packed; round = mode.round; overflow = mode.overflow }

-- there are no conversions of pairs of doubles
abbrev pub storing : FlaggedKind → ConversionMode → StoredFormat → Result StorageArray ℕ
storing (OfFormat source) mode target = Ok (between (Into (format_without_rule source) target) mode)
storing Pairs mode target = Err no_such_operation

abbrev pub loading : StoredFormat → ConversionMode → FlaggedKind → Result StorageArray ℕ
loading source mode (OfFormat target) = Ok (between (OutOf source target) mode)
loading source mode Pairs = Err no_such_operation

-- The faults in their order: the format, the mode, the format converted to, that there is no conversion.
abbrev pub known_storing : Option FlaggedKind → Option ConversionMode → Option StoredFormat
    → Result StorageArray ℕ
known_storing source mode target =
    ok_or source unknown_format >>= λ from. ok_or mode unknown_mode >>= λ rounding.
    ok_or target unknown_format >>= λ to. storing from rounding to

abbrev pub known_loading : Option StoredFormat → Option ConversionMode → Option FlaggedKind
    → Result StorageArray ℕ
known_loading source mode target =
    ok_or source unknown_format >>= λ from. ok_or mode unknown_mode >>= λ rounding.
    ok_or target unknown_format >>= λ to. loading from rounding to

-- ---- what a call leaves

-- the bits of the result, its flags, and whether it is a NaN
pub record IsStorageAnswer (array : StorageArray) (bits : ℕ) (answer : Answer) : Type 0 where
  pub value : ℕ
  pub outcome : Outcome
  pub is_converted : IsConvertedNumber array.overflow array.round array.ends bits value outcome
  pub bits_are : whole answer.bits ≡ value
  pub status_is : answer.status ≡ bits_of outcome.status
  pub number_is : answer.number ≡ one_if outcome.is_nan

-- the code 0 and the conversion, or the code of the error and the previous answer
abbrev pub IsStorageReply : Result StorageArray ℕ → ℕ → Answer → Answer → ℕ → Type 0
IsStorageReply (Ok array) bits before after code = (code ≡ answered) × IsStorageAnswer array bits after
IsStorageReply (Err error) bits before after code = (code ≡ error) × (after ≡ before)

-- one code and one answer
abbrev pub IsStorageReplyOnce : Type 0
IsStorageReplyOnce =
    (known : Result StorageArray ℕ) (bits : ℕ) (old first second : Answer) (code other : ℕ)
    → IsStorageReply known bits old first code → IsStorageReply known bits old second other
    → (code ≡ other) × SameAnswer first second
