use Rattle.std.proofs.Common.{sym}
use Rattle.coded_calls.proofs.ieee_answers.quotient_to.Goals as goal

pub returns : goal.returns
returns g c =
    rw (sym c.value-x.ensures, sym c.value-y.ensures)
    (record { given = c.div_to.result; holds = c.div_to.ensures; is_written = c.written.ensures })
