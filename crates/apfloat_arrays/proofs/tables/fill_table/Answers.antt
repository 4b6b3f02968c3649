use Rattle.std.proofs.Common.{◌≡◌, ℕ, ◌*◌, ◌^◌, ◌<◌, length, sym, subst, ◌∙◌}
use Rattle.apfloat_arrays.specs.{Bytes.number_of, declared.counts.Outcome.Outcome}
use Rattle.apfloat_arrays.proofs.{LittleEndian.fits, Places.place_size, Places.places_none, TabledResults.table_more}
use Rattle.apfloat_arrays.proofs.tables.fill_table.Goals as goal

pub loop-index-init : goal.loop-index-init
loop-index-init g c =
    places_none (λ place bytes outcome. g.R.Results.gives c.args.results.now place (number_of bytes) outcome)
    c.args.width
    c.args.values.now

pub result_in-answer-requires : goal.result_in-answer-requires
result_in-answer-requires g c = c.requires.has c.loop-index.index c.loop-index-test.true

pub write_number-requires : goal.write_number-requires
write_number-requires g c =
    let answer = c.result_in-answer.result in
    let size : length c.loop-index.values ≡ c.args.count * c.args.width =
    c.loop-index.auto.values ∙ c.requires.values in
    let room =
    place_size c.args.width c.loop-index.index c.args.count c.loop-index.values c.loop-index-test.true size in
    subst (λ (n : ℕ). c.result_in-answer.result.bits < 256 ^ n) (sym room)
    (fits answer.bits g.R.Results.bits c.args.width
    (g.met.R.Results.fits c.args.results.now c.loop-index.index answer.bits answer.outcome c.result_in-answer.ensures)
    c.requires.width)

pub loop-index-preserved : goal.loop-index-preserved
loop-index-preserved g c =
    let place = c.loop-index.index in
    let answer = c.result_in-answer.result in
    let Gives : ℕ → ℕ → Outcome → Type 0 = g.R.Results.gives c.args.results.now in
    let size : length c.loop-index.values ≡ c.args.count * c.args.width =
    c.loop-index.auto.values ∙ c.requires.values in
    let all : length c.loop-index.outcomes ≡ c.args.count = c.loop-index.auto.outcomes ∙ c.requires.outcomes in
    let width : length c.write_number.new.bytes ≡ c.args.width =
    c.write_number.auto.bytes
    ∙ place_size c.args.width place c.args.count c.loop-index.values c.loop-index-test.true size in
    table_more (λ at bytes outcome. Gives at (number_of bytes) outcome) c.args.width place c.args.count
    c.loop-index.values c.write_number.new.bytes c.loop-index.outcomes answer.outcome c.loop-index-test.true all size
    width (subst (λ (n : ℕ). Gives place n answer.outcome) (sym c.write_number.ensures) c.result_in-answer.ensures)
    c.loop-index.invariant
