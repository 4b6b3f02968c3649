use Rattle.std.proofs.Common.{arith}
use Rattle.apfloat_digits.proofs.hexadecimal_lemmas.AlignedDigits.{shortening_fits, shortening_goes_on}
use Rattle.apfloat_digits.proofs.hexadecimal.significands.shortened.Goals as goal

pub loop-places-preserved : goal.loop-places-preserved
loop-places-preserved c =
    shortening_goes_on c.args.fraction c.loop-places.places c.loop-places.digits
    (omega (arith, c.loop-places-test.true)) c.if-digits-eq0.true c.loop-places.invariant

pub returns-else-digits-eq0-clause-fits : goal.returns-else-digits-eq0-clause-fits
returns-else-digits-eq0-clause-fits c =
    shortening_fits c.args.fraction c.loop-places.places c.loop-places.digits c.requires c.loop-places.invariant
