use Rattle.std.proofs.Common.{◌≡◌, ◌*◌, length, ◌∙◌, arith}
use Rattle.std.proofs.Math.Nat.{le_antisymm}
use Rattle.apfloat_arrays.proofs.Places.{place_size}
use Rattle.convert_values.proofs.Converted.{converted_next}
use Rattle.convert_values.proofs.blocks.BlockConversion.convert_each.Goals as goal

pub returns : goal.returns
returns c = rw (le_antisymm c.loop-index.auto.index-end c.loop-index-test.false) at c.loop-index.invariant

pub loop-index-preserved : goal.loop-index-preserved
loop-index-preserved c =
    let w = c.args.widths in
    let index = c.loop-index.index in
    let all : length c.loop-index.written ≡ c.args.count * w.target =
    c.loop-index.auto.written ∙ c.requires.written in
    let size : length c.convert_one.new.written ≡ w.target =
    c.convert_one.auto.written
    ∙ place_size w.target index c.args.count c.loop-index.written c.loop-index-test.true all in
    rw c.add.ensures
    (converted_next c.args.self w index c.args.count c.args.read.now c.loop-index.written c.convert_one.new.written
    c.loop-index.counts c.convert_one.result c.requires.widths c.loop-index-test.true all size c.convert_one.ensures
    c.loop-index.invariant)
