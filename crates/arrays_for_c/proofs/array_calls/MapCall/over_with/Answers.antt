use Rattle.std.proofs.{Common.sym, lemmas.List.length-take-le}
use Rattle.arrays_for_c.proofs.array_calls.MapCall.over_with.Goals as goal

pub slice_bounds-over_by_table-end-then-has_table : goal.slice_bounds-over_by_table-end-then-has_table
slice_bounds-over_by_table-end-then-has_table c =
    sym (length-take-le _ c.args.table.now (c.has_table.ensures c.if-has_table.true).3)

pub over_by_table-requires-clause-table : goal.over_by_table-requires-clause-table
over_by_table-requires-clause-table c = length-take-le _ c.args.table.now (c.has_table.ensures c.if-has_table.true).3
