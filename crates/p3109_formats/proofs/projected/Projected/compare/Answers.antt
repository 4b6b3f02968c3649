use Rattle.std.proofs.Common.{ap, ◌∙◌, sym, w32, ℤ, int_cmp, Some}
use Rattle.std.proofs.lemmas.Int.{to_z-of_z}
use Rattle.std.specs.declared.cmp.Ordering.{Ordering}
use Rattle.apfloat_model.specs.{formats.Datum.Datum, order.Order.compared}
use Rattle.p3109_formats.specs.{Types.projection_of, Projections.projected_datum}
use Rattle.p3109_formats.proofs.{Codes.nan_at, Neighbours.by_ranks, Neighbours.rank_of, Order.left_nan, Order.right_nan}
use Rattle.p3109_formats.proofs.projected.Projected.compare.Goals as goal

pub returns-then-is_nan : goal.returns-then-is_nan
returns-then-is_nan g c =
    let d = projection_of g.F.Projection in
    let other = projected_datum d c.args.other in
    sym (ap (λ (x : Datum). compared x other) (nan_at d c.args.self c.is_nan.ensures c.if-is_nan.true) ∙ left_nan other)

pub returns-then-is_nan-2 : goal.returns-then-is_nan-2
returns-then-is_nan-2 g c =
    let d = projection_of g.F.Projection in
    let this = projected_datum d c.args.self in
    sym (ap (λ (x : Datum). compared this x) (nan_at d c.args.other c.is_nan-2.ensures c.if-is_nan-2.true)
    ∙ right_nan this)

-- both are known: the order of the signed indices
pub returns : goal.returns
returns g c =
    let d = projection_of g.F.Projection in
    let left = to_z-of_z w32 c.signed_index.result (record { sfits = c.signed_index.type_inv }) in
    let right = to_z-of_z w32 c.signed_index-2.result (record { sfits = c.signed_index-2.type_inv }) in
    ap (λ (r : Ordering). Some r)
    ((rw (left, right) at c.cmp.ensures)
    ∙ ap (λ (z : ℤ). int_cmp z c.signed_index-2.result) c.signed_index.ensures.value
    ∙ ap (λ (z : ℤ). int_cmp (rank_of d c.args.self) z) c.signed_index-2.ensures.value)
    ∙ sym (by_ranks d c.args.self c.args.other g.F.Projection.lawful c.signed_index.ensures.fits
    c.signed_index-2.ensures.fits (sym c.is_nan.ensures ∙ c.if-is_nan.false)
    (sym c.is_nan-2.ensures ∙ c.if-is_nan-2.false))
