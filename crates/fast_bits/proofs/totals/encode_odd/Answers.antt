use Rattle.apfloat_model.proofs.general.Powers.{some_digits}
use Rattle.apfloat_rounding.proofs.OddCuts.{word_digits}
use Rattle.fast_bits.proofs.totals.encode_odd.Goals as goal

pub encode_counted-requires-clause-short : goal.encode_counted-requires-clause-short
encode_counted-requires-clause-short g c =
    word_digits 64 c.args.significand c.digits-digits.result c.ranges.significand.fits c.digits-digits.ensures.full

pub encode_counted-requires-clause-full : goal.encode_counted-requires-clause-full
encode_counted-requires-clause-full g c =
    c.digits-digits.ensures.full
    (some_digits c.args.significand c.digits-digits.result c.requires.some c.digits-digits.ensures.below)
