use Rattle.std.proofs.Common.{refl, sym}
use Rattle.coded_calls.proofs.machine_operations.modulo_in.Goals as goal

pub returns-then-not-fits : goal.returns-then-not-fits
returns-then-not-fits g c = λ infinite. rw (sym c.fits.ensures, c.if-not-fits.true) (refl, refl)

pub returns-then-not-is_width : goal.returns-then-not-is_width
returns-then-not-is_width g c = λ infinite.
    rw (sym c.fits.ensures, c.if-not-fits.false, sym c.is_width.ensures, c.if-not-is_width.true) (refl, refl)
