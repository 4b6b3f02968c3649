use Rattle.std.specs.Int.{w32, w128}
use Rattle.std.proofs.Common.{◌≡◌, ℕ, ◌%◌, ◌^◌, ◌++◌, ◌∙◌, ◌-ℤ◌, ℤ, List, ap, arith, drop, length, of_z, pos, subst}
use Rattle.std.proofs.{Common.sym, Common.to_z, lemmas.Int.ints, lemmas.Int.to_z-of_z}
use Rattle.apfloat_conversions.proofs.hex_texts_lemmas.FaultsRead.{exponent_fits}
use Rattle.apfloat_model.specs.texts.{Digits.number, Literals.exponent_number}
use Rattle.apfloat_decimals.specs.{DecimalTexts.IsDecimalText, LeadingDigits.number_from}
use Rattle.apfloat_decimals.proofs.digits.ShortNumbers.{word_is, word_joined}
use Rattle.apfloat_decimals.proofs.spelled.SpelledTexts.{body_text, first_digits, fraction_digits}
use Rattle.apfloat_decimals.proofs.texts.short_numerals.unsigned_numeral.Goals as goal

pub is_of_word-requires-clause-whole : goal.is_of_word-requires-clause-whole
is_of_word-requires-clause-whole c = first_digits c.args.body.now _ c.split_number-first.ensures.digits

pub is_of_word-requires-clause-fraction : goal.is_of_word-requires-clause-fraction
is_of_word-requires-clause-fraction c =
    fraction_digits c.split_number-first.result.1.now _ c.split_fraction_number-digits.ensures.digits

pub returns-in_ok-exponent-in-Ok-clause-spelled : goal.returns-in_ok-exponent-in-Ok-clause-spelled
returns-in_ok-exponent-in-Ok-clause-spelled c =
    let body = c.args.body.now in
    let whole = c.split_number-first.result.0.now in
    let rest = c.split_number-first.result.1.now in
    let fraction = c.split_fraction_number-digits.result.0.now in
    let tail = c.split_fraction_number-digits.result.1.now in
    let digits = c.split_fraction_number-digits.result.2 in
    let e = c.in-Ok.ensures in
    let joined : digits ≡ number 10 (whole ++ fraction) % 2 ^ 64 =
    word_joined whole fraction c.split_number-first.result.2 digits
    (c.split_number-first.ensures.number
    ∙ ap (λ (d : List ℕ). number_from 0 d % 2 ^ 64) (sym c.split_number-first.ensures.digits))
    (c.split_fraction_number-digits.ensures.number
    ∙ ap (λ (d : List ℕ). number_from c.split_number-first.result.2 d % 2 ^ 64)
    (sym c.split_fraction_number-digits.ensures.digits)) in
    let word : digits ≡ number 10 (whole ++ fraction) =
    word_is (number 10 (whole ++ fraction)) digits (c.is_of_word.ensures c.if-not-is_of_word.false) joined in
    let wide = to_z-of_z w128 c.in-Ok.written (exponent_fits c.in-Ok.written e.1) in
    let unit : c.in_ok-exponent-in-Ok.exponent ≡ exponent_number (drop 1 tail) -ℤ pos (length fraction) =
    c.in_ok-exponent-in-Ok.ensures.same (exponent_number (drop 1 tail)) (rw wide e.0) in
    let within = c.in_ok-exponent-in-Ok.ensures.within in
    let narrow : to_z w32 (of_z w32 c.in_ok-exponent-in-Ok.exponent) ≡ c.in_ok-exponent-in-Ok.exponent =
    omega (arith, ints) in
    rw narrow
    (subst (λ (n : ℕ). IsDecimalText body n c.in_ok-exponent-in-Ok.exponent) (sym word)
    (subst (λ (z : ℤ). IsDecimalText body (number 10 (whole ++ fraction)) z) (sym unit)
    (body_text body whole rest fraction tail c.has_some.result c.split_number-first.ensures.digits
    c.split_number-first.ensures.rest c.split_fraction_number-digits.ensures.digits
    c.split_fraction_number-digits.ensures.rest c.has_some.ensures e.2)))
