use Rattle.std.proofs.Common.{take}
use Rattle.apfloat_arrays.specs.Tables.{IsTable}
use Rattle.apfloat_arrays.proofs.tables.fill_table.Given as goal

abbrev pub invariant-loop-index : goal.invariant-loop-index
invariant-loop-index g l = IsTable (g.R.Results.gives l.results) l.width l.index l.values (take l.index l.outcomes)
