use Rattle.std.proofs.Common.{refl, sym}
use Rattle.coded_calls.proofs.machine_operations.integral_in.Goals as goal

pub returns-then-not-fits : goal.returns-then-not-fits
returns-then-not-fits g c = λ infinite. rw (sym c.fits.ensures, c.if-not-fits.true) (refl, refl)

pub returns : goal.returns
returns g c = λ infinite. rw (sym c.fits.ensures, c.if-not-fits.false) (refl, c.integral.ensures infinite)
