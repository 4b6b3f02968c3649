use Rattle.std.proofs.{Common.sym, lemmas.List.length-take-le}
use Rattle.apfloat_arrays.proofs.array.ArrayConversion.convert_with.Goals as goal

pub slice_bounds-convert_by_table-end-then-has_table : goal.slice_bounds-convert_by_table-end-then-has_table
slice_bounds-convert_by_table-end-then-has_table c =
    sym (length-take-le _ c.args.table.now (c.has_table.ensures c.if-has_table.true).2)

pub convert_by_table-requires-clause-table : goal.convert_by_table-requires-clause-table
convert_by_table-requires-clause-table c = length-take-le _ c.args.table.now (c.has_table.ensures c.if-has_table.true).2
