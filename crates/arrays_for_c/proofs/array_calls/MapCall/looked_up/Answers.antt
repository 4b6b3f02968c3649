use Rattle.std.proofs.Common.{arith}
use Rattle.arrays_for_c.proofs.OperationTables.{elements_found, entries_of}
use Rattle.arrays_for_c.proofs.array_calls.MapCall.looked_up.Goals as goal

pub look_up-tally-requires-clause-table : goal.look_up-tally-requires-clause-table
look_up-tally-requires-clause-table c =
    entries_of c.args.self c.args.table.now c.requires.byte c.requires.size c.requires.table

pub returns : goal.returns
returns c =
    elements_found c.args.self c.args.xs.now c.args.ys.now c.args.table.now c.look_up-tally.new.output c.args.count
    c.look_up-tally.result c.counts.result c.requires.byte
    (λ index. let byte = c.type_inv.ys index in omega (arith, byte))
    c.requires.table c.look_up-tally.ensures c.counts.ensures
