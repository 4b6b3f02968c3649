-- Values written in decimal digits of any count and in hexadecimal ones, into bytes that are lent.
use Rattle.std.specs.Prelude.{◌≡◌, ℕ, ℤ, pos, List, length, Option, Some, None, ok_or, Result, Ok, Err}
use Rattle.rustc_apfloat.specs.{declared.Round.Round, declared.StatusAnd.StatusAnd, Flags.bits_of, Lawful.format_with}
use Rattle.apfloat_digits.specs.declared.decimal.written.Written.{Written}
use Rattle.apfloat_digits.specs.declared.decimal.written.Written.TheVariants.{Digits, WithoutDigits, NoRoom}
use Rattle.apfloat_digits.specs.declared.hexadecimal.written.HexError.{HexError}
use Rattle.apfloat_digits.specs.decimal.{DigitCounts.GivesDigitCount, WrittenDigits.IsWritten}
use Rattle.apfloat_digits.specs.hexadecimal.{PayloadTexts.IsFullyWritten, WrittenTexts.IsWrittenRounded}
use Rattle.formats_at_run_time.specs.declared.{BuiltInFormat.BuiltInFormat, FlaggedKind.FlaggedKind}
use Rattle.formats_at_run_time.specs.BuiltIns.{constants_in}
use Rattle.formats_at_run_time.specs.ValueKinds.{Kind, of_format, of_pairs, value_of}
use Rattle.coded_calls.specs.{declared.data.Answer.Answer, Answers.whole}
use Rattle.coded_calls.specs.KnownCalls.{◌>>=◌, answered, text_format, unknown_format, unknown_mode, wrong_length}
use Rattle.coded_calls.specs.OneReply.{SameAnswer}

pub record KnownWriting : Type 0 where
  pub format : BuiltInFormat
  pub mode : Round

-- The format and the mode of a call that writes digits, or its first fault: an unknown format, an unknown mode, or
-- pairs of doubles, which have no such call.
abbrev pub known_writing : Option FlaggedKind → Option Round → Result KnownWriting ℕ
known_writing format mode =
    ok_or format unknown_format >>= λ known. ok_or mode unknown_mode >>= λ rounding.
    text_format (Some known) >>= λ given. Ok (record { format = given; mode = rounding })

-- a count, flags and an exponent
pub record IsCounted (count status : ℕ) (exponent : ℤ) (answer : Answer) : Type 0 where
  pub bits : whole answer.bits ≡ count
  pub status_is : answer.status ≡ status
  pub number : answer.number ≡ exponent

-- ---- decimal digits

abbrev pub IsKindWritten : Kind → Round → ℕ → List ℕ → List ℕ → Written → Type 0
IsKindWritten (of_format c) mode bits before after written =
    IsWritten (format_with c) mode (value_of c bits) before after written
IsKindWritten of_pairs mode bits before after written = ⊥

-- how many digits were written, with the flags and the exponent of the first one; none of a value without digits
abbrev pub IsWritingTold : Written → ℕ → Answer → Answer → ℕ → Type 0
IsWritingTold (Digits first) size old new code =
    (code ≡ answered) × IsCounted size (bits_of first.status) first.value new
IsWritingTold (WithoutDigits category) size old new code = (code ≡ answered) × IsCounted 0 0 (pos 0) new
IsWritingTold NoRoom size old new code = (code ≡ wrong_length) × (new ≡ old)

pub record AreDigitsLeft (format : BuiltInFormat) (mode : Round) (bits : ℕ) (before after : List ℕ)
    (old new : Answer) (code : ℕ) : Type 0 where
  pub written : Written
  pub is_written : IsKindWritten (of_format (constants_in format)) mode bits before after written
  pub told : IsWritingTold written (length after) old new code

abbrev pub AreDigitsWritten : Result KnownWriting ℕ → ℕ → List ℕ → List ℕ → Answer → Answer
    → ℕ → Type 0
AreDigitsWritten (Err error) bits before after old new code = (code ≡ error) × (after ≡ before) × (new ≡ old)
AreDigitsWritten (Ok known) bits before after old new code =
    AreDigitsLeft known.format known.mode bits before after old new code

abbrev pub GivesKindCount : Kind → ℕ → Option ℕ → Type 0
GivesKindCount (of_format c) bits count = GivesDigitCount (format_with c) (value_of c bits) count
GivesKindCount of_pairs bits count = ⊥

-- 0 for a value without digits
abbrev pub count_told : Option ℕ → ℕ
count_told None = 0
count_told (Some count) = count

pub record IsCountOf (format : BuiltInFormat) (bits : ℕ) (new : Answer) : Type 0 where
  pub count : Option ℕ
  pub is_count : GivesKindCount (of_format (constants_in format)) bits count
  pub told : IsCounted (count_told count) 0 (pos 0) new

abbrev pub IsCountGiven : Result BuiltInFormat ℕ → ℕ → Answer → Answer → ℕ → Type 0
IsCountGiven (Err error) bits old new code = (code ≡ error) × (new ≡ old)
IsCountGiven (Ok format) bits old new code = (code ≡ answered) × IsCountOf format bits new

-- ---- hexadecimal digits

abbrev pub IsKindHex : Kind → ℕ → List ℕ → List ℕ → Result ℕ HexError → Type 0
IsKindHex (of_format c) bits before after answer =
    IsFullyWritten (format_with c) (value_of c bits) before after answer
IsKindHex of_pairs bits before after answer = ⊥

-- how long the text is; nothing was written if it has no room, or if too many digits were asked for
abbrev pub IsHexTold : Result ℕ HexError → Answer → Answer → ℕ → Type 0
IsHexTold (Ok size) old new code = (code ≡ answered) × IsCounted size 0 (pos 0) new
IsHexTold (Err error) old new code = (code ≡ wrong_length) × (new ≡ old)

pub record IsHexLeft (format : BuiltInFormat) (bits : ℕ) (before after : List ℕ) (old new : Answer)
    (code : ℕ) : Type 0 where
  pub answer : Result ℕ HexError
  pub is_hex : IsKindHex (of_format (constants_in format)) bits before after answer
  pub told : IsHexTold answer old new code

abbrev pub IsHexPut : Result BuiltInFormat ℕ → ℕ → List ℕ → List ℕ → Answer → Answer → ℕ
    → Type 0
IsHexPut (Err error) bits before after old new code = (code ≡ error) × (after ≡ before) × (new ≡ old)
IsHexPut (Ok format) bits before after old new code = IsHexLeft format bits before after old new code

abbrev pub IsKindRoundedHex : Kind → Round → ℕ → ℕ → List ℕ → List ℕ
    → Result (StatusAnd ℕ) HexError → Type 0
IsKindRoundedHex (of_format c) mode places bits before after answer =
    IsWrittenRounded (format_with c) mode places (value_of c bits) before after answer
IsKindRoundedHex of_pairs mode places bits before after answer = ⊥

-- how long the text is, with the flags of the rounding
abbrev pub IsRoundedHexTold : Result (StatusAnd ℕ) HexError → Answer → Answer → ℕ → Type 0
IsRoundedHexTold (Ok size) old new code =
    (code ≡ answered) × IsCounted size.value (bits_of size.status) (pos 0) new
IsRoundedHexTold (Err error) old new code = (code ≡ wrong_length) × (new ≡ old)

pub record IsRoundedHexLeft (format : BuiltInFormat) (mode : Round) (places bits : ℕ) (before after : List ℕ)
    (old new : Answer) (code : ℕ) : Type 0 where
  pub answer : Result (StatusAnd ℕ) HexError
  pub is_hex : IsKindRoundedHex (of_format (constants_in format)) mode places bits before after answer
  pub told : IsRoundedHexTold answer old new code

abbrev pub IsRoundedHexPut : Result KnownWriting ℕ → ℕ → ℕ → List ℕ → List ℕ → Answer → Answer
    → ℕ → Type 0
IsRoundedHexPut (Err error) places bits before after old new code =
    (code ≡ error) × (after ≡ before) × (new ≡ old)
IsRoundedHexPut (Ok known) places bits before after old new code =
    IsRoundedHexLeft known.format known.mode places bits before after old new code

-- ---- one answer

-- one code, one text and one answer
abbrev pub LeavesOneText : (List ℕ → Answer → ℕ → Type 0) → Type 0
LeavesOneText Says =
    (after also : List ℕ) (first second : Answer) (code other : ℕ) → Says after first code
    → Says also second other → (code ≡ other) × (after ≡ also) × SameAnswer first second

abbrev pub AreDigitsWrittenOnce : Type 0
AreDigitsWrittenOnce =
    (known : Result KnownWriting ℕ) (bits : ℕ) (before : List ℕ) (old : Answer)
    → LeavesOneText (λ after new code. AreDigitsWritten known bits before after old new code)

abbrev pub IsCountGivenOnce : Type 0
IsCountGivenOnce =
    (format : Result BuiltInFormat ℕ) (bits : ℕ) (old first second : Answer) (code other : ℕ)
    → IsCountGiven format bits old first code → IsCountGiven format bits old second other
    → (code ≡ other) × SameAnswer first second

abbrev pub IsHexPutOnce : Type 0
IsHexPutOnce =
    (format : Result BuiltInFormat ℕ) (bits : ℕ) (before : List ℕ) (old : Answer)
    → LeavesOneText (λ after new code. IsHexPut format bits before after old new code)

abbrev pub IsRoundedHexPutOnce : Type 0
IsRoundedHexPutOnce =
    (known : Result KnownWriting ℕ) (places bits : ℕ) (before : List ℕ) (old : Answer)
    → LeavesOneText (λ after new code. IsRoundedHexPut known places bits before after old new code)
