use Rattle.std.proofs.Common.{arith, sym, ◌∙◌}
use Rattle.p3109_formats.specs.Types.{projection_of}
use Rattle.p3109_formats.proofs.Neighbours.{negative_code}
use Rattle.p3109_formats.proofs.projected.Projected.next_up.Goals as goal

pub overflow_sub-magnitude : goal.overflow_sub-magnitude
overflow_sub-magnitude g c =
    let n = negative_code (projection_of g.F.Projection) c.args.self g.F.Projection.lawful c.magnitude.ensures.fits
    (sym c.is_nan.ensures ∙ c.if-is_nan.false) (sym c.is_negative.ensures ∙ c.if-is_negative.true) in
    omega (arith, c.magnitude.ensures.value, n.some)
