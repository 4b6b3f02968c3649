use Rattle.small_formats.specs.{Codes.is_negative_code, Types.constants_of}
use Rattle.small_formats.proofs.WideResults.{product, wide}
use Rattle.small_formats.proofs.stored.StoredFloat.mul_r.Goals as goal

pub returns : goal.returns
returns g c =
    let d = constants_of g.F.StorageFormat in
    product _ _ _ (wide d g.F.StorageFormat.lawful) c.args.round _ _ _
    c.made_odd.ensures _ _ c.projected.ensures (is_negative_code d c.args.self) (is_negative_code d c.args.rhs) _ _
    (rw (c.is_negative.ensures, c.is_negative-2.ensures) at c.product_sign-of_zero.ensures)
    (rw (c.widened.ensures, c.widened-2.ensures) at c.mul_r-truncated.ensures.product)
