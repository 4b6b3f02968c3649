use Rattle.arrays_for_c.specs.OperationTables.{IsTable}
use Rattle.arrays_for_c.proofs.operation_tables.fill.Given as goal

abbrev pub invariant-loop-place : goal.invariant-loop-place
invariant-loop-place g l = IsTable (g.C.ElementCalls.map l.calls) l.place l.table
