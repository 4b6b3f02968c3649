use Rattle.std.proofs.Common.{◌≡◌, ◌*◌, length, ◌∙◌, sym, ap, arith}
use Rattle.std.proofs.Math.Nat.{le_antisymm}
use Rattle.std.proofs.Math.Path.{subst₂}
use Rattle.apfloat_arrays.proofs.Places.{block_none, block_more, place_below, place_size, room_for}
use Rattle.apfloat_arrays.proofs.each.convert_each.Goals as goal

pub loop-index-init : goal.loop-index-init
loop-index-init g c =
    block_none (g.C.ValueConversion.gives c.args.conversion.now) c.args.widths.source c.args.widths.target
    c.args.input.now
    c.args.output.now

pub value_at-source-requires : goal.value_at-source-requires
value_at-source-requires g c =
    omega
    (arith, place_below c.loop-index.index c.args.count c.args.widths.source c.loop-index-test.true, c.requires.input)

pub overflow_add-target : goal.overflow_add-target
overflow_add-target g c = record {
  fits = omega (
    arith,
    place_below c.loop-index.index c.args.count c.args.widths.target c.loop-index-test.true,
    c.requires.output,
  );
}

pub convert-requires : goal.convert-requires
convert-requires g c =
    let index = c.loop-index.index in
    let count = c.args.count in
    let widths = c.args.widths in
    let before = c.loop-index-test.true in
    let size : length c.loop-index.output ≡ c.args.count * c.args.widths.target =
    c.loop-index.auto.output ∙ c.requires.output in
    subst₂ (g.C.ValueConversion.can c.args.conversion.now)
    (sym c.value_at-source.ensures.size)
    (sym (place_size widths.target index count c.loop-index.output before size)) c.requires.can

pub count-requires : goal.count-requires
count-requires g c =
    let so_far = c.loop-index.invariant in
    room_for so_far.outcomes c.loop-index.counts so_far.counted (omega (arith, so_far.size, c.loop-index-test.true))

pub returns : goal.returns
returns g c = rw (le_antisymm c.loop-index.auto.index-end c.loop-index-test.false) at c.loop-index.invariant

pub loop-index-preserved : goal.loop-index-preserved
loop-index-preserved g c =
    let index = c.loop-index.index in
    let widths = c.args.widths in
    let before = c.loop-index-test.true in
    let size : length c.loop-index.output ≡ c.args.count * c.args.widths.target =
    c.loop-index.auto.output ∙ c.requires.output in
    let width : length c.convert.new.output ≡ c.args.widths.target =
    c.convert.auto.output ∙ place_size widths.target index c.args.count c.loop-index.output before size in
    rw c.count.ensures
    (block_more (g.C.ValueConversion.gives c.args.conversion.now) widths.source widths.target index c.args.count
    c.args.input.now c.loop-index.output c.convert.new.output c.loop-index.counts c.convert.result before size width
    (rw c.value_at-source.ensures.is at c.convert.ensures) c.loop-index.invariant)
