use Rattle.std.proofs.Common.{sym}
use Rattle.coded_calls.proofs.machine_operations.any_converted.Goals as goal

pub returns : goal.returns
returns g c =
    let settled = c.settled_conversion.ensures.conversion c.args.round c.convert_r-plain.new.loses_info
    c.convert_r-plain.ensures.converted in
    rw (sym c.choices.ensures, sym c.value-x.ensures)
    (record { given = c.settled_conversion.result; holds = settled; is_written = c.written.ensures })
