use Rattle.std.proofs.Common.{refl, sym}
use Rattle.coded_calls.proofs.machine_operations.to_alternative_half_in.Goals as goal

pub returns-then-not-fits : goal.returns-then-not-fits
returns-then-not-fits g c = λ infinite. rw (sym c.fits.ensures, c.if-not-fits.true) (refl, refl)

pub returns-then-not-is_aarch64 : goal.returns-then-not-is_aarch64
returns-then-not-is_aarch64 g c = λ infinite.
    rw (sym c.fits.ensures, c.if-not-fits.false, sym c.is_aarch64.ensures, c.if-not-is_aarch64.true) (refl, refl)

pub returns : goal.returns
returns g c = λ infinite.
    rw (sym c.fits.ensures, c.if-not-fits.false, sym c.is_aarch64.ensures, c.if-not-is_aarch64.false)
    (refl, c.alternative_half_of.ensures)
