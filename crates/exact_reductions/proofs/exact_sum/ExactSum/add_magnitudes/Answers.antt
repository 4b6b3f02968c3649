use Rattle.std.proofs.Common.{◌<◌, ◌≤◌, length, arith}
use Rattle.apfloat_ieee.specs.FlaggedTypes.{format_of}
use Rattle.exact_reductions.specs.Reductions.{magnitude_of}
use Rattle.exact_reductions.proofs.Tallies.{one_done, all_done, magnitudes_here, magnitudes_done, value_one}
use Rattle.exact_reductions.proofs.exact_sum.ExactSum.add_magnitudes.Goals as goal

pub loop-i-preserved : goal.loop-i-preserved
loop-i-preserved g c =
    let f = format_of g.S.Flagged in
    let h : c.loop-i.i < length c.args.x.now = omega (arith, c.loop-i-test.true) in
    one_done _ _ _ _ _ _ _ _ c.loop-i.invariant
    (magnitudes_here f c.args.x.now c.loop-i.i c.index-x-i.result h c.index-x-i.is) (rw c.abs.ensures at c.add.ensures)
    (value_one f (magnitude_of f c.index-x-i.result))

pub returns : goal.returns
returns g c =
    let l : length c.args.x.now ≤ c.loop-i.i = omega (arith, c.loop-i-test.false) in
    all_done _ _ _ _ _ c.loop-i.invariant (magnitudes_done (format_of g.S.Flagged) c.args.x.now c.loop-i.i l)
