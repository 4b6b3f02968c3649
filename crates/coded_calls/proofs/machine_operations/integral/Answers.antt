use Rattle.std.proofs.Common.{sym}
use Rattle.coded_calls.proofs.machine_operations.integral.Goals as goal

pub returns : goal.returns
returns g c = λ infinite.
    let settled = (c.settled_unary.ensures.operations infinite).integral c.args.round c.round_to_integral_in.ensures in
    rw (sym c.choices.ensures, sym c.value-x.ensures)
    (record { given = c.settled_unary.result; holds = settled; is_written = c.written.ensures })
