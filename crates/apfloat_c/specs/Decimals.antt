-- Decimals: texts as values, and the texts of values.
use Rattle.std.specs.Prelude.{◌≡◌, ◌⊎◌, ℕ, ◌-◌, ◌/◌, ◌%◌, ◌^◌, ◌<◌, IsTrue, List, ◌++◌, codes, length, replicate, ◌&&◌}
use Rattle.std.specs.Prelude.{eqb, ltb, if◌then◌else◌, pos, Option, Some, None, MatchOption, is_some, ok_or, Result, Ok}
use Rattle.std.specs.{Prelude.Err, Char.is_ascii}
use Rattle.rustc_apfloat.specs.{declared.Round.Round, Datum.Datum, Datum.finite, Datum.infinite, Datum.nan}
use Rattle.rustc_apfloat.specs.{Digits.every, Flags.Gives, Format.Format, Lawful.Constants, Lawful.format_with}
use Rattle.apfloat_decimals.specs.{ShortestSearch.IsShortestOf, Texts.decimal_text, Texts.sign_text}
use Rattle.apfloat_decimals.specs.declared.decimal.Decimal.{Decimal}
use Rattle.apfloat_decimals.specs.DecimalTexts.{IsDecimalReading, decimal_fault_of}
use Rattle.apfloat_digits.specs.of_double_doubles.PairReadings.{IsPairDecimalReading}
use Rattle.formats_at_run_time.specs.{BuiltIns.constants_in, BuiltIns.kind_of, Relations.in_format, Relations.in_pairs}
use Rattle.formats_at_run_time.specs.declared.{BuiltInFormat.BuiltInFormat, BuiltInKind.BuiltInKind}
use Rattle.formats_at_run_time.specs.declared.BuiltInKind.TheVariants.{OfFormat as OfBuiltIn, Pairs as PairsOfDoubles}
use Rattle.formats_at_run_time.specs.declared.FlaggedFormat.TheVariants.{BuiltIn, AfterRounding, BeforeRounding}
use Rattle.formats_at_run_time.specs.declared.FlaggedKind.{FlaggedKind, TheVariants.OfFormat, TheVariants.Pairs}
use Rattle.formats_at_run_time.specs.ValueKinds.{Kind, of_format, of_pairs, value_of}
use Rattle.coded_calls.specs.{declared.data.Answer.Answer, Answers.IsValue}
use Rattle.coded_calls.specs.KnownCalls.{◌>>=◌, answered, no_such_operation, refused_text, unknown_format, unknown_mode}
use Rattle.apfloat_c.specs.declared.decimals.{DecimalText.DecimalText, Shortest.Shortest}
use Rattle.apfloat_c.specs.declared.decimals.Shortest.TheVariants.{Number, Infinity, Nan}

-- ---- reading

-- the value of the text with its flags
abbrev pub IsDecimalAnswer : Kind → Round → List ℕ → Answer → Type 0
IsDecimalAnswer (of_format c) mode text answer =
    IsValue (in_format c) (λ given. Gives (IsDecimalReading (format_with c) mode text) given) answer
IsDecimalAnswer of_pairs mode text answer =
    IsValue in_pairs (λ given. Gives (IsPairDecimalReading mode text) given) answer

-- a result for ASCII bytes; there is none if a byte is above 127 or the text has a fault
abbrev pub IsDecimalOutcome : Kind → Round → List ℕ → Option Answer → Type 0
IsDecimalOutcome kind mode text (Some answer) = IsTrue (every is_ascii text) × IsDecimalAnswer kind mode text answer
IsDecimalOutcome kind mode text None = IsTrue (every is_ascii text) → IsTrue (is_some (decimal_fault_of text))

-- the kinds in which decimals are read: those with the flags of the built-in formats
abbrev pub decimal_kind : FlaggedKind → Option BuiltInKind
decimal_kind (OfFormat (BuiltIn format)) = Some (OfBuiltIn format)
decimal_kind (OfFormat (AfterRounding format)) = None
decimal_kind (OfFormat (BeforeRounding format)) = None
decimal_kind Pairs = Some PairsOfDoubles

pub record KnownReading : Type 0 where
  pub kind : BuiltInKind
  pub mode : Round

-- The faults in their order: the format, the mode, and a format in which no decimals are read.
abbrev pub known_reading : Option FlaggedKind → Option Round → Result KnownReading ℕ
known_reading format mode =
    ok_or format unknown_format >>= λ known. ok_or mode unknown_mode >>= λ rounding.
    ok_or (decimal_kind known) no_such_operation >>= λ kind. Ok (record { kind = kind; mode = rounding })

-- the code 0 and the result, or the code of the error and the previous contents
abbrev pub IsReadInto : Kind → Round → List ℕ → Answer → Answer → ℕ → Type 0
IsReadInto kind mode text old new code =
    ((code ≡ answered) × IsDecimalOutcome kind mode text (Some new))
    ⊎ ((code ≡ refused_text) × (new ≡ old) × IsDecimalOutcome kind mode text None)

abbrev pub IsParsed : Result KnownReading ℕ → List ℕ → Answer → Answer → ℕ → Type 0
IsParsed (Err error) text old new code = (code ≡ error) × (new ≡ old)
IsParsed (Ok known) text old new code = IsReadInto (kind_of known.kind) known.mode text old new code

-- ---- writing

-- the text of the shortest decimal; that of an infinity is `inf` or `-inf`, and that of each NaN `nan`
abbrev pub IsValueText : Format → Datum → List ℕ → Type 0
IsValueText f (finite negative quanta) text =
    (decimal : Decimal) × (IsShortestOf f negative quanta decimal × (text ≡ decimal_text decimal))
IsValueText f (infinite negative) text = text ≡ sign_text negative ++ codes "inf"
IsValueText f (nan negative significand) text = text ≡ codes "nan"

-- the text of what is written of a value
abbrev pub text_of_shortest : Shortest → List ℕ
text_of_shortest (Number decimal) = decimal_text decimal
text_of_shortest (Infinity negative) = sign_text negative ++ codes "inf"
text_of_shortest Nan = codes "nan"

-- a text of less than 64 bytes, and zeros
pub record IsText (written : List ℕ) (text : DecimalText) : Type 0 where
  pub fits : length written < 64
  pub bytes_are : text.bytes ≡ written ++ replicate (64 - length written) 0
  pub length_is : text.length ≡ length written

-- a whole number below 10 ^ 16 as a decimal without a fraction
abbrev pub whole_decimal : Format → Datum → Option Decimal
whole_decimal f (finite negative quanta) =
    if eqb (quanta % 2 ^ f.scale) 0 && ltb (quanta / 2 ^ f.scale) (10 ^ 16)
    then Some (record { negative = negative; digits = quanta / 2 ^ f.scale; exponent = pos 0 })
    else None
whole_decimal f x = None

-- the text for a person: such a number in full, and any other value as its shortest decimal
abbrev pub IsShownText : Format → Datum → List ℕ → Type 0
IsShownText f x text =
    MatchOption (whole_decimal f x) (IsValueText f x text) (λ decimal. text ≡ decimal_text decimal)

pub record IsTextOfBits (Says : Format → Datum → List ℕ → Type 0) (c : Constants) (bits : ℕ)
    (text : DecimalText) : Type 0 where
  pub written : List ℕ
  pub is_text_of : Says (format_with c) (value_of c bits) written
  pub is_written : IsText written text

abbrev pub IsKindText : (Format → Datum → List ℕ → Type 0) → Kind → ℕ → List ℕ → Type 0
IsKindText Says (of_format c) bits text = Says (format_with c) (value_of c bits) text
IsKindText Says of_pairs bits text = ⊥

-- the code 0 and the text, or the code of the error and the previous contents
abbrev pub IsTextWritten : (Format → Datum → List ℕ → Type 0) → Result BuiltInFormat ℕ → ℕ
    → DecimalText → DecimalText → ℕ → Type 0
IsTextWritten Says (Err error) bits old new code = (code ≡ error) × (new ≡ old)
IsTextWritten Says (Ok format) bits old new code =
    (code ≡ answered) × IsTextOfBits Says (constants_in format) bits new

abbrev pub IsShortestWritten : Result BuiltInFormat ℕ → ℕ → DecimalText → DecimalText → ℕ → Type 0
IsShortestWritten = IsTextWritten IsValueText

abbrev pub IsShownWritten : Result BuiltInFormat ℕ → ℕ → DecimalText → DecimalText → ℕ → Type 0
IsShownWritten = IsTextWritten IsShownText
