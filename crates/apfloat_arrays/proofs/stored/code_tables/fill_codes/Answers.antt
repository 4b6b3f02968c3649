use Rattle.std.proofs.Common.{◌≡◌, ◌*◌, ◌^◌, ◌<◌, length, ◌∙◌, arith}
use Rattle.rustc_apfloat.specs.{Flags.bits_of, FlaggedTypes.constants_of}
use Rattle.apfloat_arrays.specs.{Tables.outcome_tally, stored.Arrays.IsLoaded}
use Rattle.apfloat_arrays.proofs.{LittleEndian.fits, Places.place_size}
use Rattle.apfloat_arrays.proofs.TalliedResults.{entries_more, no_entries, tally_most}
use Rattle.apfloat_arrays.proofs.stored.code_tables.fill_codes.Goals as goal

pub loop-place-init : goal.loop-place-init
loop-place-init g c =
    let it = c.args.results.now in
    no_entries (IsLoaded it.overflow it.source (constants_of g.T.Flagged) it.round) outcome_tally c.args.table.now

pub write_result-requires-clause-fits : goal.write_result-requires-clause-fits
write_result-requires-clause-fits g c =
    fits c.result_in.result.bits g.T.Flagged.BITS 4 c.result_in.ensures.is_encoded.below c.requires.few

pub loop-place-preserved : goal.loop-place-preserved
loop-place-preserved g c =
    let it = c.args.results.now in
    let answer = c.result_in.result in
    let place = c.loop-place.place in
    let size : length c.loop-place.table ≡ 256 * 8 = c.loop-place.auto.table ∙ c.requires.table in
    let within : c.loop-place.place < 256 = omega (arith, c.loop-place-test.true, c.requires.codes) in
    let wide : length c.write_result.new.entry ≡ 8 =
    c.write_result.auto.entry ∙ place_size 8 place 256 c.loop-place.table within size in
    let below : c.result_in.result.bits < 2 ^ 32 =
    fits answer.bits g.T.Flagged.BITS 4 c.result_in.ensures.is_encoded.below c.requires.few in
    entries_more (IsLoaded it.overflow it.source (constants_of g.T.Flagged) it.round) outcome_tally place 256
    c.loop-place.table c.write_result.new.entry answer.bits answer.outcome within size wide c.result_in.ensures below
    (tally_most (bits_of answer.outcome.status) answer.outcome.is_nan) c.write_result.ensures c.loop-place.invariant
