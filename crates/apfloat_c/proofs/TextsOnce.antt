-- The text of a value is determined by its bits: one code, and one text.
use Rattle.std.proofs.Common.{◌≡◌, ℕ, zero, suc, ◌-◌, ◌<◌, Bool, true, false, List, ◌++◌, length}
use Rattle.std.proofs.Common.{replicate, Err, Ok, refl, sym, ap, ◌∙◌, arith}
use Rattle.std.specs.Prelude.{nat_le, MatchOption, Option, Some, None}
use Rattle.rustc_apfloat.specs.{Datum.Datum, Datum.finite, Datum.infinite, Datum.nan, Format.Format, Lawful.format_with}
use Rattle.apfloat_decimals.specs.{declared.decimal.Decimal.Decimal, ShortestSearch.IsShortestOf, Texts.decimal_text}
use Rattle.apfloat_decimals.proofs.shortest_decimals.OneShortest.{one_shortest}
use Rattle.formats_at_run_time.specs.{declared.BuiltInFormat.BuiltInFormat, BuiltIns.constants_in}
use Rattle.formats_at_run_time.specs.{BuiltIns.known_format, ValueKinds.value_of}
use Rattle.apfloat_c.specs.declared.decimals.DecimalText.{DecimalText}
use Rattle.apfloat_c.specs.About.{IsTold, error_text, greatest_code}
use Rattle.apfloat_c.specs.Decimals.{IsShownText, IsText, IsTextWritten, IsValueText, whole_decimal}
use Rattle.apfloat_c.specs.OneAnswer.{IsErrorTextOnce, IsTextOnce, IsTextOnceBy}

-- decimals with the same parts are equal
decimal_of_parts : (first second : Decimal) → first.negative ≡ second.negative → first.digits ≡ second.digits
    → first.exponent ≡ second.exponent → first ≡ second
decimal_of_parts a b negative digits exponent =
    ap (λ (x : Bool). record { negative = x; digits = a.digits; exponent = a.exponent }) negative
    ∙ ap (λ (n : ℕ). record { negative = b.negative; digits = n; exponent = a.exponent }) digits
    ∙ ap (λ (e : _). record { negative = b.negative; digits = b.digits; exponent = e }) exponent

-- a number has one shortest decimal
one_decimal : (f : Format) (negative : Bool) (quanta : ℕ) (first second : Decimal) → 0 < f.precision
    → IsShortestOf f negative quanta first → IsShortestOf f negative quanta second → first ≡ second
one_decimal f negative zero a b some x y =
    decimal_of_parts a b (x.sign ∙ sym y.sign) ((x.zero refl).0 ∙ sym (y.zero refl).0)
    ((x.zero refl).1 ∙ sym (y.zero refl).1)
one_decimal f negative (suc n) a b some x y =
    let positive : 0 < suc n = omega arith in
    let same = one_shortest f negative (suc n) a.digits b.digits a.exponent b.exponent some positive (x.some positive)
    (y.some positive) in
    decimal_of_parts a b (x.sign ∙ sym y.sign) same.0 same.1

-- a value has one text
one_text : (f : Format) (x : Datum) (first second : List ℕ) → 0 < f.precision
    → IsValueText f x first → IsValueText f x second → first ≡ second
one_text f (finite negative quanta) a b some x y =
    x.1.1 ∙ ap (λ (d : Decimal). decimal_text d) (one_decimal f negative quanta x.0 y.0 some x.1.0 y.1.0)
    ∙ sym y.1.1
one_text f (infinite negative) a b some x y = x ∙ sym y
one_text f (nan negative significand) a b some x y = x ∙ sym y

-- a text fills the struct in one way
pub one_struct : (written other : List ℕ) (first second : DecimalText) → written ≡ other
    → IsText written first → IsText other second → first ≡ second
one_struct written other a b same x y =
    let filled = λ (text : List ℕ). text ++ replicate (64 - length text) 0 in
    ap (λ (bytes : List ℕ). record { bytes = bytes; length = a.length })
    (x.bytes_are ∙ ap filled same ∙ sym y.bytes_are)
    ∙ ap (λ (n : ℕ). record { bytes = b.bytes; length = n })
    (x.length_is ∙ ap (λ (text : List ℕ). length text) same ∙ sym y.length_is)

-- a built-in format has at least one digit
some_precision : (format : BuiltInFormat) → 0 < (format_with (constants_in format)).precision
some_precision format =
    let law = (known_format format).lawful in
    omega (arith, law.parameters.precision_low)

-- a value has one text for a person
one_shown : (f : Format) (x : Datum) (first second : List ℕ) → 0 < f.precision
    → IsShownText f x first → IsShownText f x second → first ≡ second
one_shown f x a b some h k = by_decimal (whole_decimal f x) h k
  where
    by_decimal : (decimal : Option Decimal)
        → MatchOption decimal (IsValueText f x a) (λ d. a ≡ decimal_text d)
        → MatchOption decimal (IsValueText f x b) (λ d. b ≡ decimal_text d) → a ≡ b
    by_decimal None p q = one_text f x a b some p q
    by_decimal (Some d) p q = p ∙ sym q

-- two texts for the same arguments are equal
text_once_by : (Says : Format → Datum → List ℕ → Type 0)
    → ((f : Format) (x : Datum) (first second : List ℕ) → 0 < f.precision → Says f x first → Says f x second
    → first ≡ second)
    → IsTextOnceBy (IsTextWritten Says)
text_once_by Says one (Err error) bits old a b code other x y = (x.0 ∙ sym y.0, x.1 ∙ sym y.1)
text_once_by Says one (Ok format) bits old a b code other x y =
    let f = format_with (constants_in format) in (
      x.0 ∙ sym y.0,
      one_struct x.1.written y.1.written a b
          (one f (value_of (constants_in format) bits) x.1.written y.1.written (some_precision format)
          x.1.is_text_of y.1.is_text_of) x.1.is_written y.1.is_written,
    )

pub text_once : IsTextOnce
text_once = (text_once_by IsValueText one_text, text_once_by IsShownText one_shown)

told_once : (known : Bool) (written : List ℕ) (old first second : DecimalText) (code other : ℕ)
    → IsTold known written old first code → IsTold known written old second other
    → (code ≡ other) × (first ≡ second)
told_once true written old a b code other x y = (x.0 ∙ sym y.0, one_struct written written a b refl x.1 y.1)
told_once false written old a b code other x y = (x.0 ∙ sym y.0, x.1 ∙ sym y.1)

-- two texts for a code are equal
pub error_text_once : IsErrorTextOnce
error_text_once error old a b code other x y =
    told_once (nat_le error greatest_code) (error_text error) old a b code other x y
