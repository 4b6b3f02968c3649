use Rattle.std.proofs.Common.{refl, sym}
use Rattle.coded_calls.proofs.machine_operations.converted.Goals as goal

pub returns-then-fits : goal.returns-then-fits
returns-then-fits g c = rw (sym c.fits.ensures, c.if-fits.true) (refl, c.fitting_converted.ensures)

pub returns-else-fits : goal.returns-else-fits
returns-else-fits g c = rw (sym c.fits.ensures, c.if-fits.false) (refl, refl)
