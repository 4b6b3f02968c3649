use Rattle.coded_calls.proofs.KnownRequests.{operation_left}
use Rattle.coded_calls.proofs.machine_operations.operated.Goals as goal

pub returns : goal.returns
returns c =
    operation_left c.args.machine c.args.format c.args.round c.args.operation c.args.answer.now c.fill.new.place
    c.fill.result c.fill.ensures
