use Rattle.std.proofs.Common.{sym}
use Rattle.coded_calls.proofs.machine_operations.greater.Goals as goal

pub returns : goal.returns
returns g c =
    rw (sym c.choices.ensures, sym c.value-x.ensures, sym c.value-y.ensures)
    (record { given = c.greatest.result; holds = c.greatest.ensures; is_written = c.written.ensures })
