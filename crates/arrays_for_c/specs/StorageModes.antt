-- Calls that round into storage formats by the modes of conversions.
use Rattle.std.specs.Prelude.{◌≡◌, ℕ, ◌/◌, ◌%◌, ◌==◌, ◌&&◌, nat_le, Bool, if◌then◌else◌}
use Rattle.std.specs.Prelude.{List, length, take, drop, Option, Some, None, ok_or, Result, Ok, Err}
use Rattle.rustc_apfloat.specs.{declared.Round.Round, Flags.bits_of}
use Rattle.formats_at_run_time.specs.declared.FlaggedKind.{FlaggedKind, TheVariants.OfFormat, TheVariants.Pairs}
use Rattle.formats_at_run_time.specs.{FlaggedKinds.format_without_rule, Modes.mode_coded}
use Rattle.apfloat_arrays.specs.declared.{Counts.Counts, Outcome.Outcome, stored.EachRound.EachRound}
use Rattle.apfloat_arrays.specs.declared.stored.EachRound.TheVariants.{Ieee, ToOdd, Stochastic}
use Rattle.apfloat_arrays.specs.declared.stored.{ModeConversion.ModeConversion, StoredFormat.StoredFormat}
use Rattle.apfloat_arrays.specs.stored.ByMode.{AreStoredWith, IsStoredWith, mode_width}
use Rattle.coded_calls.specs.{declared.data.Answer.Answer, Answers.one_if, Answers.whole}
use Rattle.coded_calls.specs.KnownCalls.{◌>>=◌, answered, no_such_operation, unknown_format, unknown_mode}
use Rattle.coded_calls.specs.{KnownCalls.wrong_width, OneReply.SameAnswer}
use Rattle.arrays_for_c.specs.{declared.array_data.ArrayAnswer.ArrayAnswer, ArrayCalls.if_fitting}
use Rattle.arrays_for_c.specs.{ArrayCalls.lengths_fit, Arrays.answer_with, OneAnswer.IsLeftIn}

-- ---- what is asked for

abbrev pub ieee_round : Option Round → Result EachRound ℕ
ieee_round (Some mode) = Ok (Ieee mode)
ieee_round None = Err unknown_mode

-- after the codes of the modes of IEEE 754 those of to odd and of random digits, of which there are 1 to 32
abbrev pub each_round_coded : ℕ → ℕ → Result EachRound ℕ
each_round_coded mode digits =
    if mode == 5 then Ok ToOdd
    else if mode == 6 then (if nat_le 1 digits && nat_le digits 32 then Ok (Stochastic digits) else Err wrong_width)
    else ieee_round (mode_coded mode)

-- there are no conversions of pairs of doubles
abbrev pub by_mode : FlaggedKind → EachRound → StoredFormat → Result ModeConversion ℕ
by_mode (OfFormat source) round target =
    Ok (record { source = format_without_rule source; target = target; round = round })
by_mode Pairs round target = Err no_such_operation

-- The faults in their order: the format, the mode and its digits, the format converted to, that there is no conversion.
abbrev pub known_by_mode : Option FlaggedKind → Result EachRound ℕ → Option StoredFormat
    → Result ModeConversion ℕ
known_by_mode source round target =
    ok_or source unknown_format >>= λ from. round >>= λ rounding.
    ok_or target unknown_format >>= λ to. by_mode from rounding to

-- four bytes for each value, or none
abbrev pub randoms_fit : EachRound → ℕ → ℕ → Bool
randoms_fit (Ieee mode) count length = length == 0
randoms_fit ToOdd count length = length == 0
randoms_fit (Stochastic digits) count length = (length % 4 == 0) && (length / 4 == count)

abbrev pub arrays_fit : ModeConversion → ℕ → ℕ → ℕ → Bool
arrays_fit it randoms given room =
    lengths_fit (mode_width it) 1 given room && randoms_fit it.round (given / mode_width it) randoms

-- after these faults, that the lengths do not fit
abbrev pub known_mode_array : Result ModeConversion ℕ → ℕ → ℕ → ℕ → Result ModeConversion ℕ
known_mode_array known randoms given room = known >>= λ it. if_fitting (arrays_fit it randoms given room) it

-- ---- what a call leaves

-- the code, the flags, and whether it is that of a NaN
pub record IsModeAnswer (it : ModeConversion) (random bits : ℕ) (answer : Answer) : Type 0 where
  pub value : ℕ
  pub outcome : Outcome
  pub is_stored : IsStoredWith it random bits value outcome
  pub bits_are : whole answer.bits ≡ value
  pub status_is : answer.status ≡ bits_of outcome.status
  pub number_is : answer.number ≡ one_if outcome.is_nan

abbrev pub IsModeReply : Result ModeConversion ℕ → ℕ → ℕ → Answer → Answer → ℕ → Type 0
IsModeReply (Ok it) random bits before after code = (code ≡ answered) × IsModeAnswer it random bits after
IsModeReply (Err error) random bits before after code = (code ≡ error) × (after ≡ before)

-- each value is stored in its place, and the bytes after the last are as before
pub record AreAllStored (it : ModeConversion) (count : ℕ) (randoms given old new : List ℕ) (answer : ArrayAnswer)
    : Type 0 where
  pub counts : Counts
  pub are_stored : AreStoredWith it randoms given count (take count new) counts
  pub kept : drop count new ≡ drop count old
  pub answer_is : answer ≡ answer_with (record { counts = counts; div_by_zero = 0 })

abbrev pub IsModeArray : Result ModeConversion ℕ → List ℕ → List ℕ → List ℕ → List ℕ
    → ArrayAnswer → ArrayAnswer
    → ℕ → Type 0
IsModeArray (Ok it) randoms given old new before after code =
    (code ≡ answered) × AreAllStored it (length given / mode_width it) randoms given old new after
IsModeArray (Err error) randoms given old new before after code =
    (code ≡ error) × (new ≡ old) × (after ≡ before)

-- ---- one answer

abbrev pub IsModeReplyOnce : Type 0
IsModeReplyOnce =
    (known : Result ModeConversion ℕ) (random bits : ℕ) (old first second : Answer) (code other : ℕ)
    → IsModeReply known random bits old first code → IsModeReply known random bits old second other
    → (code ≡ other) × SameAnswer first second

abbrev pub IsModeArrayOnce : Type 0
IsModeArrayOnce =
    (known : Result ModeConversion ℕ) (randoms given old first second : List ℕ) (before after also : ArrayAnswer)
    (code other : ℕ) → IsLeftIn old first → IsLeftIn old second
    → IsModeArray known randoms given old first before after code
    → IsModeArray known randoms given old second before also other
    → (code ≡ other) × (first ≡ second) × (after ≡ also)
