use Rattle.apfloat_arrays.specs.Tables.{IsResultTable}
use Rattle.apfloat_arrays.proofs.tables.fill_entries.Given as goal

abbrev pub invariant-loop-place : goal.invariant-loop-place
invariant-loop-place g l = IsResultTable (g.R.Results.gives l.results) l.place l.table
