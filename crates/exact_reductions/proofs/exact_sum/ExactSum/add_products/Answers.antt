use Rattle.std.proofs.Common.{◌<◌, ◌≤◌, length, arith}
use Rattle.apfloat_ieee.specs.FlaggedTypes.{format_of}
use Rattle.exact_reductions.proofs.Tallies.{one_done, all_done, products_here, products_done, product_one}
use Rattle.exact_reductions.proofs.exact_sum.ExactSum.add_products.Goals as goal

pub loop-i-preserved : goal.loop-i-preserved
loop-i-preserved g c =
    let f = format_of g.S.Flagged in
    let x = c.index-x-i.result in
    let y = c.index-y-i.result in
    let h : c.loop-i.i < length c.args.x.now = omega (arith, c.loop-i-test.true) in
    let k : c.loop-i.i < length c.args.y.now = omega (arith, h, c.requires.lengths) in
    one_done _ _ _ _ _ _ _ _ c.loop-i.invariant
    (products_here f c.args.x.now c.args.y.now c.loop-i.i x y h k c.index-x-i.is c.index-y-i.is)
    c.add_product.ensures (product_one f x y)

pub returns : goal.returns
returns g c =
    let l : length c.args.x.now ≤ c.loop-i.i = omega (arith, c.loop-i-test.false) in
    all_done _ _ _ _ _ c.loop-i.invariant (products_done (format_of g.S.Flagged) c.args.x.now c.args.y.now c.loop-i.i l)
