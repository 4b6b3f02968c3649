use Rattle.std.specs.Int.{w128}
use Rattle.std.proofs.Common.{length, drop, pos, ◌-ℤ◌, List, ℕ, ◌%◌, ◌^◌, ap, sym, ◌∙◌}
use Rattle.std.proofs.lemmas.Int.{to_z-of_z}
use Rattle.apfloat_model.specs.{texts.Literals.exponent_number, rounding.Flags.bits_of}
use Rattle.apfloat_ieee.specs.FlaggedTypes.{format_of}
use Rattle.apfloat_conversions.proofs.hex_texts_lemmas.{FaultsRead.exponent_fits, Scanning.refused_by}
use Rattle.apfloat_decimals.specs.LeadingDigits.{number_from}
use Rattle.apfloat_decimals.proofs.digits.ShortNumbers.{word_joined}
use Rattle.apfloat_decimals.proofs.spelled.SpelledTexts.{first_digits, fraction_digits, body_spelled, body_faulted}
use Rattle.apfloat_decimals.proofs.texts.read_body.Goals as goal

pub value_of-requires-clause-whole : goal.value_of-requires-clause-whole
value_of-requires-clause-whole g c = first_digits c.args.body.now _ c.split_number-first.ensures.digits

pub value_of-requires-clause-fraction : goal.value_of-requires-clause-fraction
value_of-requires-clause-fraction g c =
    fraction_digits c.split_number-first.result.1.now _ c.split_fraction_number-number.ensures.digits

pub value_of-requires-clause-word : goal.value_of-requires-clause-word
value_of-requires-clause-word g c =
    let whole = c.split_number-first.result.0.now in
    let fraction = c.split_fraction_number-number.result.0.now in
    word_joined whole fraction c.split_number-first.result.2 c.split_fraction_number-number.result.2
    (c.split_number-first.ensures.number
    ∙ ap (λ (digits : List ℕ). number_from 0 digits % 2 ^ 64) (sym c.split_number-first.ensures.digits))
    (c.split_fraction_number-number.ensures.number
    ∙ ap (λ (digits : List ℕ). number_from c.split_number-first.result.2 digits % 2 ^ 64)
    (sym c.split_fraction_number-number.ensures.digits))

pub returns-in_err-exponent : goal.returns-in_err-exponent
returns-in_err-exponent g c =
    refused_by c.from_residual.result c.in_err-exponent.field-0.0 _ _ c.from_residual.ensures.1
    (body_faulted c.args.body.now c.split_number-first.result.0.now c.split_number-first.result.1.now
    c.split_fraction_number-number.result.0.now c.split_fraction_number-number.result.1.now
    c.has_some.result c.in_err-exponent.field-0.0
    c.split_number-first.ensures.digits c.split_number-first.ensures.rest c.split_fraction_number-number.ensures.digits
    c.split_fraction_number-number.ensures.rest c.has_some.ensures c.in_err-exponent.ensures)

pub returns : goal.returns
returns g c =
    let whole = c.split_number-first.result.0.now in
    let fraction = c.split_fraction_number-number.result.0.now in
    let tail = c.split_fraction_number-number.result.1.now in
    let e = c.in_ok-exponent.ensures in
    let exponent = to_z-of_z w128 c.in_ok-exponent.exponent (exponent_fits c.in_ok-exponent.exponent e.1) in
    let unit = to_z-of_z w128 c.unit_of-unit.result (record { sfits = c.unit_of-unit.type_inv }) in
    body_spelled (format_of g.S.Flagged) c.args.round c.args.negative c.args.body.now whole
    c.split_number-first.result.1.now fraction tail c.has_some.result c.value_of.result.value
    (bits_of c.value_of.result.status) c.split_number-first.ensures.digits c.split_number-first.ensures.rest
    c.split_fraction_number-number.ensures.digits c.split_fraction_number-number.ensures.rest c.has_some.ensures e.2
    (c.value_of.ensures (exponent_number (drop 1 tail) -ℤ pos (length fraction))
    (rw unit (c.unit_of-unit.ensures.near (exponent_number (drop 1 tail)) (rw exponent e.0))))
