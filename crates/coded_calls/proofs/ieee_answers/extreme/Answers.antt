use Rattle.std.proofs.Common.{sym}
use Rattle.coded_calls.proofs.ieee_answers.extreme.Goals as goal

pub returns : goal.returns
returns g c =
    rw (sym c.value-x.ensures, sym c.value-y.ensures)
    (record { given = c.extremum.result; holds = c.extremum.ensures; is_written = c.written.ensures })
