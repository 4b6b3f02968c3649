use Rattle.std.proofs.Common.{refl, sym}
use Rattle.coded_calls.proofs.machine_operations.root.Goals as goal

pub returns-then-not-fits : goal.returns-then-not-fits
returns-then-not-fits g c = λ infinite. rw (sym c.fits.ensures, c.if-not-fits.true) (refl, refl)

pub returns : goal.returns
returns g c = λ infinite.
    let settled = (c.settled_unary.ensures.operations infinite).root c.args.round c.sqrt_r.ensures.root in
    rw (sym c.fits.ensures, c.if-not-fits.false, sym c.choices.ensures, sym c.value-x.ensures)
    (refl, record { given = c.settled_unary.result; holds = settled; is_written = c.written.ensures })
