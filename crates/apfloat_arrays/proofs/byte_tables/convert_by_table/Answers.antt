use Rattle.apfloat_arrays.proofs.TabledResults.{block_looked_up, entries_of}
use Rattle.apfloat_arrays.proofs.byte_tables.convert_by_table.Goals as goal

pub look_up-requires-clause-table : goal.look_up-requires-clause-table
look_up-requires-clause-table g c =
    entries_of (g.R.Results.gives c.args.results.now) g.R.Results.bits c.args.width 256 c.fill_bytes.new.table
    (g.met.R.Results.fits c.args.results.now) c.fill_bytes.auto.table c.requires.width c.fill_bytes.ensures

pub returns-then-bits-le32 : goal.returns-then-bits-le32
returns-then-bits-le32 g c =
    block_looked_up (g.R.Results.gives c.args.results.now) 1 c.args.width 256 c.args.count c.args.input.now
    c.look_up.new.output c.fill_bytes.new.table c.look_up.result c.counts.result c.fill_bytes.ensures
    c.look_up.ensures c.counts.ensures
