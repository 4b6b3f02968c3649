-- A decimal text is read as its number.
use Rattle.std.proofs.Common.{◌≡◌, ℕ, Bool, sym, ◌∙◌, inl, inr, List, Result, Ok, Err, ℤ, pos, neg_ℤ, ◌≤ℤ◌, ◌+◌, ◌^◌}
use Rattle.std.proofs.{Common.ap, Common.⊎_elim, Common.arith, lemmas.Int.ints, lemmas.Option.none-some}
use Rattle.std.specs.Result.{IsOkAnd}
use Rattle.apfloat_model.specs.{rounding.Flags.Gives, rounding.Flags.bits_of, texts.Specials.after_mark}
use Rattle.apfloat_model.specs.declared.{kinds.Round.Round, parse_error.Fault.TheVariants.NoLiteral}
use Rattle.apfloat_model.specs.declared.{parse_error.ParseError.ParseError, status.StatusAnd.StatusAnd}
use Rattle.apfloat_model.specs.formats.{Datum.Datum, Format.Format}
use Rattle.apfloat_model.proofs.texts.OneMeaning.{meaning_no_fault}
use Rattle.apfloat_decimals.specs.{Decimals.IsDecimalDelivery, DecimalTexts.IsDecimalText, DecimalTexts.IsDecimalRead}
use Rattle.apfloat_decimals.specs.{DecimalTexts.IsDecimalReading, Parsing.Spells, Parsing.IsParsed}
use Rattle.apfloat_decimals.specs.{ReadBack.IsStoredDecimal, declared.decimal.Decimal.Decimal}
use Rattle.apfloat_decimals.specs.declared.parsing.DecimalError.{DecimalError, TheVariants.NoDecimal}
use Rattle.apfloat_decimals.specs.declared.parsing.DecimalError.TheVariants.{TooManyDigits, ExponentOutOfRange}
use Rattle.apfloat_decimals.proofs.spelled.TextParts.{only_text, no_other_meaning, no_fault_of, no_plain_fault}

-- a decimal text spells one number
pub text_once : (body : List ℕ) (digits other : ℕ) (exponent place : ℤ) → IsDecimalText body digits exponent
    → IsDecimalText body other place → (digits ≡ other) × (exponent ≡ place)
text_once body digits other exponent place x y =
    let one = only_text body digits exponent x in
    let two = only_text body other place y in
    (one.digits_are ∙ sym two.digits_are, one.exponent_is ∙ sym two.exponent_is)

-- a value that is read from a text is delivered for the number that the text spells
pub reading_is : (format : Format) (mode : Round) (text : List ℕ) (negative : Bool) (digits : ℕ) (exponent : ℤ)
    (value : Datum) (status : ℕ) → Spells text negative digits exponent → IsDecimalReading format mode text value status
    → IsDecimalDelivery format mode negative digits exponent value status
reading_is format mode text negative digits exponent value status x (inl r) =
    let same = text_once (after_mark text) r.digits digits r.exponent exponent r.is_text x.is_text in
    rw (x.sign, sym same.0, sym same.1) r.delivered
reading_is format mode text negative digits exponent value status x (inr r) =
    absurd (none-some NoLiteral
    (sym (meaning_no_fault text r.meaning r.means) ∙ no_other_meaning text digits exponent x.is_text))

pub text_read : (format : Format) (mode : Round) (text : List ℕ) (answer : Result (StatusAnd Datum) ParseError)
    (negative : Bool) (digits : ℕ) (exponent : ℤ) → Spells text negative digits exponent
    → IsDecimalRead format mode text answer
    → IsOkAnd answer (Gives (IsDecimalDelivery format mode negative digits exponent))
text_read format mode text (Ok answer) negative digits exponent x r =
    reading_is format mode text negative digits exponent answer.value (bits_of answer.status) x r
text_read format mode text (Err error) negative digits exponent x r =
    none-some r.fault (sym (no_fault_of text digits exponent x.is_text) ∙ r.is_first)

-- ---- texts that are read as decimals

make : Bool → ℕ → ℤ → Decimal
make negative digits exponent = record { negative = negative; digits = digits; exponent = exponent }

same_decimal : (x y : Decimal) → x.negative ≡ y.negative → x.digits ≡ y.digits → x.exponent ≡ y.exponent → x ≡ y
unfolding make
same_decimal x y n d e =
    ap (λ (b : Bool). make b x.digits x.exponent) n ∙ ap (λ (k : ℕ). make y.negative k x.exponent) d
    ∙ ap (λ (z : ℤ). make y.negative y.digits z) e

pub text_parsed : (text : List ℕ) (x : Decimal) (answer : Result Decimal DecimalError) → IsStoredDecimal x
    → Spells text x.negative x.digits x.exponent → IsParsed text answer → answer ≡ Ok x
text_parsed text x (Ok y) stored spells r =
    let same = text_once (after_mark text) y.digits x.digits y.exponent x.exponent r.is_text spells.is_text in
    ap (λ (d : Decimal). Ok d) (same_decimal y x (r.sign ∙ sym spells.sign) same.0 same.1)
text_parsed text x (Err (NoDecimal error)) stored spells r =
    absurd (none-some r.fault (sym (no_plain_fault text x.digits x.exponent spells.is_text) ∙ r.is_first))
text_parsed text x (Err TooManyDigits) stored spells r =
    let same = text_once (after_mark text) r.digits x.digits r.exponent x.exponent r.is_text spells.is_text in
    absurd (omega (arith, same.0))
text_parsed text x (Err ExponentOutOfRange) stored spells r =
    let same = text_once (after_mark text) r.digits x.digits r.exponent x.exponent r.is_text spells.is_text in
    ⊎_elim (λ (l : pos (2 ^ 31) ≤ℤ r.exponent). absurd (omega (arith, ints, same.1, l)))
    (λ (l : r.exponent ≤ℤ neg_ℤ (pos (2 ^ 31 + 1))). absurd (omega (arith, ints, same.1, l))) r.far
