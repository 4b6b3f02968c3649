-- What an export leaves is determined by its arguments: one code, and one result or text.
use Rattle.std.specs.Prelude.{◌≡◌, ℕ, List, Result}
use Rattle.formats_at_run_time.specs.declared.BuiltInFormat.{BuiltInFormat}
use Rattle.apfloat_c.specs.declared.decimals.DecimalText.{DecimalText}
use Rattle.apfloat_c.specs.About.{IsErrorText}
use Rattle.apfloat_c.specs.Decimals.{KnownReading, IsParsed, IsShortestWritten, IsShownWritten}
use Rattle.coded_calls.specs.{declared.data.Answer.Answer, OneReply.SameAnswer}

-- a decimal text that is read
abbrev pub IsParsedOnce : Type 0
IsParsedOnce =
    (known : Result KnownReading ℕ) (text : List ℕ) (old first second : Answer) (code other : ℕ)
    → IsParsed known text old first code → IsParsed known text old second other
    → (code ≡ other) × SameAnswer first second

-- the text of a value
abbrev pub IsTextOnceBy : (Result BuiltInFormat ℕ → ℕ → DecimalText → DecimalText → ℕ → Type 0)
    → Type 0
IsTextOnceBy Written =
    (format : Result BuiltInFormat ℕ) (bits : ℕ) (old first second : DecimalText) (code other : ℕ)
    → Written format bits old first code → Written format bits old second other
    → (code ≡ other) × (first ≡ second)

abbrev pub IsTextOnce : Type 0
IsTextOnce = IsTextOnceBy IsShortestWritten × IsTextOnceBy IsShownWritten

-- the text for a code
abbrev pub IsErrorTextOnce : Type 0
IsErrorTextOnce =
    (error : ℕ) (old first second : DecimalText) (code other : ℕ)
    → IsErrorText error old first code → IsErrorText error old second other
    → (code ≡ other) × (first ≡ second)
