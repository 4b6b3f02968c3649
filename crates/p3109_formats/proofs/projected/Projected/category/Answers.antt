use Rattle.std.proofs.Common.{ap, ◌∙◌, sym, arith, refl}
use Rattle.apfloat_model.specs.order.Classes.{category_of}
use Rattle.p3109_formats.specs.{Types.projection_of, Projections.is_negative_code, Projections.magnitude_of}
use Rattle.p3109_formats.proofs.Codes.{infinity_at, nan_at, number_at, zero_at}
use Rattle.p3109_formats.proofs.Values.{normal_category}
use Rattle.p3109_formats.proofs.projected.Projected.category.Goals as goal

pub returns-then-is_nan : goal.returns-then-is_nan
returns-then-is_nan g c =
    sym (ap category_of (nan_at (projection_of g.F.Projection) c.args.self c.is_nan.ensures c.if-is_nan.true))

pub returns-then-magnitude-largest_index : goal.returns-then-magnitude-largest_index
returns-then-magnitude-largest_index g c =
    sym (ap category_of (infinity_at (projection_of g.F.Projection) c.args.self c.is_nan.ensures c.if-is_nan.false refl
    (omega (
      arith,
      c.magnitude-magnitude.ensures.value,
      c.largest_index.ensures,
      c.if-magnitude-largest_index.true,
    ))))

pub returns-then-magnitude-eq0 : goal.returns-then-magnitude-eq0
returns-then-magnitude-eq0 g c =
    sym (ap category_of (zero_at (projection_of g.F.Projection) c.args.self g.F.Projection.lawful
    c.magnitude-magnitude.ensures.fits c.is_nan.ensures c.if-is_nan.false
    (omega (arith, c.magnitude-magnitude.ensures.value, c.if-magnitude-eq0.true))))

pub returns-else-magnitude-eq0 : goal.returns-else-magnitude-eq0
returns-else-magnitude-eq0 g c =
    let d = projection_of g.F.Projection in
    sym (ap category_of (number_at d c.args.self c.is_nan.ensures c.if-is_nan.false refl
    (omega (
      arith,
      c.magnitude-magnitude.ensures.value,
      c.largest_index.ensures,
      c.if-magnitude-largest_index.false,
    )))
    ∙ normal_category d.precision (magnitude_of d c.args.self) (is_negative_code d c.args.self)
    g.F.Projection.lawful.precision_low (omega (arith, c.magnitude-magnitude.ensures.value, c.if-magnitude-eq0.false)))
