use Rattle.std.proofs.Common.{sym}
use Rattle.coded_calls.proofs.ieee_answers.logarithm.Goals as goal

pub returns : goal.returns
returns g c =
    rw (sym c.value-x.ensures)
    (record { given = c.log_b.result; holds = c.log_b.ensures; is_written = c.written.ensures })
