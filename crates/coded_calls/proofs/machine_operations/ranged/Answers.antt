use Rattle.std.proofs.Common.{sym}
use Rattle.coded_calls.proofs.machine_operations.ranged.Goals as goal

pub returns : goal.returns
returns g c =
    rw (sym c.value.ensures, sym c.value-2.ensures)
    (record { given = c.range.result; holds = c.range.ensures; is_written = c.written.ensures })
