use Rattle.std.proofs.Common.{◌*◌, ◌^◌, sym, refl, arith}
use Rattle.apfloat_model.proofs.rounding.{Deliveries.past_is, PickedPoints.past_same, PickedPoints.past_other}
use Rattle.apfloat_rounding.specs.Shapes.{format_at}
use Rattle.apfloat_rounding.proofs.rounding.is_past.Goals as goal

pub returns-then-place-span : goal.returns-then-place-span
returns-then-place-span c =
    let greatest = c.greatest_significand-greatest in
    sym (past_is (format_at c.args.shape) greatest.result c.span-span.result (c.args.significand * 2 ^ c.args.place) _ _
    greatest.ensures.value c.span-span.ensures.value
    (past_same c.args.significand c.args.place greatest.result c.span-span.result c.if-place-span.true) refl)

pub returns-else-place-span : goal.returns-else-place-span
returns-else-place-span c =
    let greatest = c.greatest_significand-greatest in
    let three = c.args.shape.parameters.precision_low in
    sym (past_is (format_at c.args.shape) greatest.result c.span-span.result (c.args.significand * 2 ^ c.args.place) _ _
    greatest.ensures.value c.span-span.ensures.value
    (past_other c.args.shape.precision c.args.significand c.args.place greatest.result c.span-span.result
    (omega (arith, three)) c.requires.fits c.requires.full greatest.ensures.fits greatest.ensures.full
    c.if-place-span.false) refl)
