use Rattle.rustc_apfloat.specs.FlaggedTypes.{constants_of}
use Rattle.apfloat_arrays.specs.stored.CodeTables.{AreCodeEntries}
use Rattle.apfloat_arrays.proofs.stored.code_tables.fill_codes.Given as goal

abbrev pub invariant-loop-place : goal.invariant-loop-place
invariant-loop-place g l =
    AreCodeEntries l.results.overflow l.results.source (constants_of g.T.Flagged) l.results.round l.place l.table
