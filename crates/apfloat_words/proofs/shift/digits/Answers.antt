use Rattle.apfloat_model.proofs.rounding.KeptDigits.{digits_below, digits_full}
use Rattle.apfloat_words.proofs.shift.digits.Goals as goal

pub returns-clause-below : goal.returns-clause-below
returns-clause-below c = digits_below c.args.number c.ranges.number.fits

pub returns-clause-full : goal.returns-clause-full
returns-clause-full c = digits_full c.args.number c.ranges.number.fits
