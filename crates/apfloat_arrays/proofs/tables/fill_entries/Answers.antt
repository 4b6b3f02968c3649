use Rattle.std.proofs.Common.{◌≡◌, ◌*◌, ◌^◌, ◌<◌, length, ◌∙◌}
use Rattle.rustc_apfloat.specs.Flags.{bits_of}
use Rattle.apfloat_arrays.specs.Tables.{outcome_tally}
use Rattle.apfloat_arrays.proofs.{LittleEndian.fits, Places.place_size}
use Rattle.apfloat_arrays.proofs.TalliedResults.{entries_more, no_entries, tally_most}
use Rattle.apfloat_arrays.proofs.tables.fill_entries.Goals as goal

pub loop-place-init : goal.loop-place-init
loop-place-init g c = no_entries (g.R.Results.gives c.args.results.now) outcome_tally c.args.table.now

pub result_in-requires : goal.result_in-requires
result_in-requires g c = c.requires.has c.loop-place.place c.loop-place-test.true

pub write_result-requires-clause-fits : goal.write_result-requires-clause-fits
write_result-requires-clause-fits g c =
    let answer = c.result_in.result in
    fits answer.bits g.R.Results.bits 4
    (g.met.R.Results.fits c.args.results.now c.loop-place.place answer.bits answer.outcome c.result_in.ensures)
    c.requires.few

pub loop-place-preserved : goal.loop-place-preserved
loop-place-preserved g c =
    let answer = c.result_in.result in
    let place = c.loop-place.place in
    let size : length c.loop-place.table ≡ c.args.count * 8 = c.loop-place.auto.table ∙ c.requires.table in
    let wide : length c.write_result.new.entry ≡ 8 =
    c.write_result.auto.entry ∙ place_size 8 place c.args.count c.loop-place.table c.loop-place-test.true size in
    let below : c.result_in.result.bits < 2 ^ 32 =
    fits answer.bits g.R.Results.bits 4
    (g.met.R.Results.fits c.args.results.now place answer.bits answer.outcome c.result_in.ensures) c.requires.few in
    entries_more (g.R.Results.gives c.args.results.now) outcome_tally place c.args.count c.loop-place.table
    c.write_result.new.entry answer.bits answer.outcome c.loop-place-test.true size wide c.result_in.ensures below
    (tally_most (bits_of answer.outcome.status) answer.outcome.is_nan) c.write_result.ensures c.loop-place.invariant
