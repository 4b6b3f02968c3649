use Rattle.std.proofs.Common.{sym}
use Rattle.coded_calls.proofs.ieee_answers.root_to.Goals as goal

pub returns : goal.returns
returns g c =
    rw (sym c.value-x.ensures)
    (record { given = c.sqrt_to.result; holds = c.sqrt_to.ensures; is_written = c.written.ensures })
