use Rattle.std.specs.Int.{w32, w128}
use Rattle.std.proofs.Common.{◌++◌, length, drop, pos, ◌-ℤ◌, refl, arith, to_z, of_z, FitsSigned, rules}
use Rattle.std.proofs.lemmas.Int.{to_z-of_z}
use Rattle.apfloat_model.specs.texts.{Digits.number, Literals.exponent_number}
use Rattle.apfloat_conversions.specs.hex_texts.Saturation.{IsNear, far_bound}
use Rattle.apfloat_conversions.proofs.hex_texts_lemmas.FaultsRead.{exponent_fits}
use Rattle.apfloat_decimals.specs.DecimalTexts.{IsDecimalText}
use Rattle.apfloat_decimals.proofs.spelled.SpelledTexts.{first_digits, fraction_digits, body_text}
use Rattle.apfloat_decimals.proofs.parsing.read_body.Goals.{After-digits_of}
use Rattle.apfloat_decimals.proofs.parsing.read_body.Goals as goal

pub digits_of-requires-clause-whole : goal.digits_of-requires-clause-whole
digits_of-requires-clause-whole c = first_digits c.args.body.now _ c.split_digits.ensures.digits

pub digits_of-requires-clause-fraction : goal.digits_of-requires-clause-fraction
digits_of-requires-clause-fraction c = fraction_digits c.split_digits.result.1.now _ c.split_fraction.ensures.digits

-- the text spells its digits times the power of ten
spelled : (c : After-digits_of) → IsDecimalText c.args.body.now
    (number 10 (c.split_digits.result.0.now ++ c.split_fraction.result.0.now))
    (exponent_number (drop 1 c.split_fraction.result.1.now) -ℤ pos (length c.split_fraction.result.0.now))
spelled c =
    body_text c.args.body.now c.split_digits.result.0.now c.split_digits.result.1.now c.split_fraction.result.0.now
    c.split_fraction.result.1.now c.has_some.result c.split_digits.ensures.digits c.split_digits.ensures.rest
    c.split_fraction.ensures.digits c.split_fraction.ensures.rest c.has_some.ensures c.in-Ok.ensures.2

-- the exponent that was counted is near that of the text
near : (c : After-digits_of) → IsNear far_bound (exponent_number (drop 1 c.split_fraction.result.1.now))
    (to_z w128 (of_z w128 c.in-Ok.exponent))
near c =
    let same = to_z-of_z w128 c.in-Ok.exponent (exponent_fits c.in-Ok.exponent c.in-Ok.ensures.1) in
    rw same c.in-Ok.ensures.0

pub returns-in_default : goal.returns-in_default
returns-in_default c = record {
  digits = _;
  exponent = _;
  is_text = spelled (goal.at.returns-in_default c).After-digits_of;
  many = c.in_default.ensures;
}

pub returns-in_default-fitting_unit : goal.returns-in_default-fitting_unit
returns-in_default-fitting_unit c =
    let state = (goal.at.returns-in_default-fitting_unit c).After-digits_of in
    record {
      digits = _;
      exponent = _;
      is_text = spelled state;
      few = omega (arith, c.in-Some.ensures);
      far = c.in_default-fitting_unit.ensures _ (near state);
    }

pub returns : goal.returns
returns c =
    let state = (goal.at.returns c).After-digits_of in
    let text = spelled state in
    let digits = c.in-Some.ensures in
    let exponent = c.in-Some-fitting_unit.ensures _ (near state) in
    let fits : FitsSigned w32 c.in-Some-fitting_unit.unit = search rules in
    let same = to_z-of_z w32 c.in-Some-fitting_unit.unit fits in
    (refl, rw (same, digits, exponent) text)
