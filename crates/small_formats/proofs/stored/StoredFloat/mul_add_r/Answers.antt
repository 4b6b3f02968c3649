use Rattle.small_formats.specs.{Codes.is_negative_code, Codes.magnitude_of, Codes.point, Types.constants_of}
use Rattle.small_formats.proofs.WideResults.{fused, wide}
use Rattle.small_formats.proofs.stored.StoredFloat.mul_add_r.Goals as goal

pub returns : goal.returns
returns g c =
    let d = constants_of g.F.StorageFormat in
    fused _ _ _ (wide d g.F.StorageFormat.lawful) c.args.round _ _ _
    c.made_odd.ensures _ _ c.projected.ensures (is_negative_code d c.args.self) (is_negative_code d c.args.multiplicand)
    (is_negative_code d c.args.addend) (point d.precision (magnitude_of d c.args.self))
    (point d.precision (magnitude_of d c.args.multiplicand)) (point d.precision (magnitude_of d c.args.addend))
    (rw (c.product_sign-left.ensures, c.is_negative.ensures, c.is_negative-2.ensures, c.is_negative-3.ensures)
    at c.sign_of_zero-of_zero.ensures)
    (rw (c.widened.ensures, c.widened-factor.ensures, c.widened-term.ensures) at c.mul_add_r-truncated.ensures)
