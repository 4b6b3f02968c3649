-- A text is read in one way, as a value and as a decimal.
use Rattle.std.proofs.Common.{◌≡◌, ℕ, ◌*◌, ◌^◌, Bool, true, false, not, refl, sym, ap, ◌∙◌, subst}
use Rattle.std.proofs.Common.{inl, inr, List, Option, Some, None, Result, Ok, Err, arith}
use Rattle.std.proofs.lemmas.Option.{none-some}
use Rattle.std.specs.Prelude.{if◌then◌else◌, is_some}
use Rattle.std.specs.Option.{unwrap_or}
use Rattle.apfloat_model.specs.declared.{kinds.Round.Round, parse_error.Fault.Fault}
use Rattle.apfloat_model.specs.declared.parse_error.Fault.TheVariants.{EmptyText, LoneMark, NoLiteral}
use Rattle.apfloat_model.specs.{arithmetic.Exact.up, arithmetic.Exact.down, formats.Datum.Datum, formats.Format.Format}
use Rattle.apfloat_model.specs.{rounding.Flags.bits_of, texts.Digits.is_empty}
use Rattle.apfloat_model.specs.texts.{Faults.words, Faults.begins_literal, Specials.TextMeaning, Specials.mark_of}
use Rattle.apfloat_model.specs.texts.{Specials.after_mark, Specials.is_minus, Specials.special_of, Texts.Means}
use Rattle.apfloat_model.proofs.Determined.{gives_once, reading_once}
use Rattle.apfloat_model.proofs.{Once.Once, rounding.Laws.delivered_once, texts.OneMeaning.meaning_no_fault}
use Rattle.apfloat_decimals.specs.DecimalTexts.{IsDecimalReading, IsDecimalRefusal, body_fault, decimal_fault_of}
use Rattle.apfloat_decimals.specs.OneReading.{IsReadOnce, IsParsedOnce, AreOneParsing}
use Rattle.apfloat_decimals.specs.Parsing.{Spells, IsRefusedFor, plain_fault_of}
use Rattle.apfloat_decimals.specs.declared.decimal.Decimal.{Decimal}
use Rattle.apfloat_decimals.specs.declared.parsing.DecimalError.{DecimalError, TheVariants.NoDecimal}
use Rattle.apfloat_decimals.specs.declared.parsing.DecimalError.TheVariants.{TooManyDigits, ExponentOutOfRange}
use Rattle.apfloat_decimals.proofs.spelled.TextParts.{no_fault_of, no_plain_fault}
use Rattle.apfloat_decimals.proofs.spelled.TextReadings.{text_once, text_parsed, reading_is}

-- ---- as a value

-- a text has at most one value and one status: a decimal text has no other meaning
pub decimal_reading_once : (f : Format) (mode : Round) (text : List ℕ) → Once (IsDecimalReading f mode text)
decimal_reading_once f mode text v w r s (inl x) y =
    let spells : Spells text (is_minus (mark_of text)) x.digits x.exponent =
    record { sign = refl; is_text = x.is_text } in
    delivered_once f mode (is_minus (mark_of text)) (x.digits * 10 ^ up x.exponent * 2 ^ f.scale)
    (10 ^ down x.exponent) v w r s x.delivered
    (reading_is f mode text (is_minus (mark_of text)) x.digits x.exponent w s spells y)
decimal_reading_once f mode text v w r s (inr x) (inl y) =
    let spells : Spells text (is_minus (mark_of text)) y.digits y.exponent =
    record { sign = refl; is_text = y.is_text } in
    delivered_once f mode (is_minus (mark_of text)) (y.digits * 10 ^ up y.exponent * 2 ^ f.scale)
    (10 ^ down y.exponent) v w r s
    (reading_is f mode text (is_minus (mark_of text)) y.digits y.exponent v r spells (inr x)) y.delivered
decimal_reading_once f mode text v w r s (inr x) (inr y) = reading_once f mode text v w r s x y

-- if a text has no fault, it has no fault as a decimal text either
same_fault : (empty bare special literal : Bool) (rest body : Option Fault)
    → (if empty then Some EmptyText else (if bare then Some LoneMark
    else (if special then None else (if not literal then Some NoLiteral else rest)))) ≡ None
    → (if empty then Some EmptyText
    else (if bare then Some LoneMark else (if special then None else (if literal then rest else body)))) ≡ None
same_fault true bare special literal rest body h = h
same_fault false true special literal rest body h = h
same_fault false false true literal rest body h = refl
same_fault false false false true rest body h = h
same_fault false false false false rest body h = absurd (none-some NoLiteral (sym h))

-- a text with a meaning has no fault as a decimal text
meaning_no_decimal_fault : (text : List ℕ) (meaning : TextMeaning) → Means text meaning → decimal_fault_of text ≡ None
meaning_no_decimal_fault text meaning means =
    same_fault (is_empty text) (is_empty (after_mark text)) (is_some (special_of text))
    (begins_literal (after_mark text)) _ (body_fault (after_mark text)) (meaning_no_fault text meaning means)

-- a text that is read has no fault as a decimal text
pub reading_no_fault : (f : Format) (mode : Round) (text : List ℕ) (value : Datum) (status : ℕ)
    → IsDecimalReading f mode text value status → decimal_fault_of text ≡ None
reading_no_fault f mode text value status (inl x) = no_fault_of text x.digits x.exponent x.is_text
reading_no_fault f mode text value status (inr x) = meaning_no_decimal_fault text x.meaning x.means

-- a text is not both read and refused
reading_or_refusal : (f : Format) (mode : Round) (text said : List ℕ) (value : Datum) (status : ℕ)
    → IsDecimalReading f mode text value status → IsDecimalRefusal text said → ⊥
reading_or_refusal f mode text said value status x y =
    none-some y.fault (sym (reading_no_fault f mode text value status x) ∙ y.is_first)

-- two faults that are the first one of a text have the same message
same_words : (first : Option Fault) (fault other : Fault) → first ≡ Some fault → first ≡ Some other
    → words fault ≡ words other
same_words first fault other x y = ap (λ (o : Option Fault). words (unwrap_or o fault)) (sym x ∙ y)

-- a text is refused with one message
pub decimal_refusal_once : (text said other : List ℕ) → IsDecimalRefusal text said → IsDecimalRefusal text other
    → said ≡ other
decimal_refusal_once text said other x y =
    x.says ∙ same_words (decimal_fault_of text) x.fault y.fault x.is_first y.is_first ∙ sym y.says

pub decimal_read_once : IsReadOnce
decimal_read_once f mode text (Ok r) (Ok s) x y =
    gives_once (IsDecimalReading f mode text) (decimal_reading_once f mode text) r s x y
decimal_read_once f mode text (Ok r) (Err e) x y = reading_or_refusal f mode text e.0.now r.value (bits_of r.status) x y
decimal_read_once f mode text (Err e) (Ok r) x y = reading_or_refusal f mode text e.0.now r.value (bits_of r.status) y x
decimal_read_once f mode text (Err e) (Err d) x y = decimal_refusal_once text e.0.now d.0.now x y

-- ---- as a decimal

plain_refusal_once : (text said other : List ℕ) → IsRefusedFor (plain_fault_of text) said
    → IsRefusedFor (plain_fault_of text) other → said ≡ other
plain_refusal_once text said other x y =
    x.says ∙ same_words (plain_fault_of text) x.fault y.fault x.is_first y.is_first ∙ sym y.says

pub parsed_once : IsParsedOnce
parsed_once text (Ok a) other stored _ x y =
    subst (λ (r : Result Decimal DecimalError). AreOneParsing (Ok a) r) (sym (text_parsed text a other stored x y)) refl
parsed_once text (Err e) (Ok b) _ stored x y =
    subst (λ (r : Result Decimal DecimalError). AreOneParsing r (Ok b)) (sym (text_parsed text b (Err e) stored y x))
    refl
parsed_once text (Err (NoDecimal e)) (Err (NoDecimal d)) _ _ x y = plain_refusal_once text e.0.now d.0.now x y
parsed_once text (Err (NoDecimal e)) (Err TooManyDigits) _ _ x y =
    none-some x.fault (sym (no_plain_fault text y.digits y.exponent y.is_text) ∙ x.is_first)
parsed_once text (Err (NoDecimal e)) (Err ExponentOutOfRange) _ _ x y =
    none-some x.fault (sym (no_plain_fault text y.digits y.exponent y.is_text) ∙ x.is_first)
parsed_once text (Err TooManyDigits) (Err (NoDecimal d)) _ _ x y =
    none-some y.fault (sym (no_plain_fault text x.digits x.exponent x.is_text) ∙ y.is_first)
parsed_once text (Err ExponentOutOfRange) (Err (NoDecimal d)) _ _ x y =
    none-some y.fault (sym (no_plain_fault text x.digits x.exponent x.is_text) ∙ y.is_first)
parsed_once text (Err TooManyDigits) (Err TooManyDigits) _ _ x y = tt
parsed_once text (Err ExponentOutOfRange) (Err ExponentOutOfRange) _ _ x y = tt
parsed_once text (Err TooManyDigits) (Err ExponentOutOfRange) _ _ x y =
    omega (arith, (text_once (after_mark text) x.digits y.digits x.exponent y.exponent x.is_text y.is_text).0)
parsed_once text (Err ExponentOutOfRange) (Err TooManyDigits) _ _ x y =
    omega (arith, (text_once (after_mark text) x.digits y.digits x.exponent y.exponent x.is_text y.is_text).0)
