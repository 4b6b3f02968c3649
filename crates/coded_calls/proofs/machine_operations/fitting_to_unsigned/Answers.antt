use Rattle.std.proofs.Common.{refl, sym}
use Rattle.coded_calls.proofs.machine_operations.fitting_to_unsigned.Goals as goal

pub returns-then-fits : goal.returns-then-fits
returns-then-fits g c = λ infinite. rw (sym c.fits.ensures, c.if-fits.true) c.to_unsigned.ensures

pub returns-else-fits : goal.returns-else-fits
returns-else-fits g c = λ infinite. rw (sym c.fits.ensures, c.if-fits.false) (refl, refl)
