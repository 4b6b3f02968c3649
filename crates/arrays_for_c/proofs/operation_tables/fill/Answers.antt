use Rattle.std.proofs.Common.{◌≡◌, ◌*◌, length, ◌∙◌}
use Rattle.apfloat_arrays.proofs.{Places.place_size, TalliedResults.no_entries}
use Rattle.arrays_for_c.specs.OperationTables.{IsResultAt, element_tally}
use Rattle.arrays_for_c.proofs.OperationTables.{table_more}
use Rattle.arrays_for_c.proofs.operation_tables.fill.Goals as goal

pub loop-place-init : goal.loop-place-init
loop-place-init g c = no_entries (IsResultAt (g.C.ElementCalls.map c.args.calls)) element_tally c.args.table.now

pub loop-place-preserved : goal.loop-place-preserved
loop-place-preserved g c =
    let size : length c.loop-place.table ≡ 65536 * 8 = c.loop-place.auto.table ∙ c.requires.size in
    let long : length c.fill_entry.new.entry ≡ 8 =
    c.fill_entry.auto.entry ∙ place_size 8 c.loop-place.place 65536 c.loop-place.table c.loop-place-test.true size in
    table_more (g.C.ElementCalls.map c.args.calls) c.loop-place.place c.loop-place.table c.fill_entry.new.entry
    c.fill_entry.result c.loop-place-test.true size long c.fill_entry.ensures c.loop-place.invariant
