use Rattle.std.proofs.Common.{◌∙◌, ap, arith, w16, ℤ, int_cmp}
use Rattle.std.proofs.lemmas.Int.{to_z-of_z}
use Rattle.apfloat_model.specs.arithmetic.Exact.{signed}
use Rattle.small_formats.specs.{Codes.is_negative_code, Codes.magnitude_of, Types.constants_of}
use Rattle.small_formats.proofs.CodesCompared.{compared_points}
use Rattle.small_formats.proofs.stored.StoredFloat.compare.Goals as goal

pub returns : goal.returns
returns g c =
    let d = constants_of g.F.StorageFormat in
    let low = g.F.StorageFormat.lawful.precision_low in
    let left = to_z-of_z w16 c.signed_index.result (record { sfits = c.signed_index.type_inv }) in
    let right = to_z-of_z w16 c.signed_index-2.result (record { sfits = c.signed_index-2.type_inv }) in
    (rw (left, right) at c.cmp.ensures) ∙ ap (λ (z : ℤ). int_cmp z c.signed_index-2.result) c.signed_index.ensures
    ∙ ap (λ (z : ℤ). int_cmp (signed (is_negative_code d c.args.self) (magnitude_of d c.args.self)) z)
    c.signed_index-2.ensures ∙ compared_points d.precision (magnitude_of d c.args.self) (magnitude_of d c.args.other)
    (is_negative_code d c.args.self) (is_negative_code d c.args.other) (omega (arith, low))
