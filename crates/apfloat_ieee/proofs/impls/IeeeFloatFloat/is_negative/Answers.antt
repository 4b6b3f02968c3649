use Rattle.std.proofs.Common.{◌≡◌, refl}
use Rattle.apfloat_model.specs.declared.kinds.Category.{Category}
use Rattle.apfloat_model.specs.declared.kinds.Category.TheVariants.{Infinity, NaN, Normal, Zero}
use Rattle.apfloat_model.specs.order.Classes.{is_negative}
use Rattle.apfloat_rounding.specs.{declared.shape.Shape.Shape, declared.unpacked.Unpacked.Unpacked, Stored.datum_by}
use Rattle.apfloat_ieee.specs.FlaggedTypes.{shape_of}
use Rattle.apfloat_ieee.proofs.impls.IeeeFloatFloat.is_negative.Goals as goal

sign_by : (category : Category) (shape : Shape) (x : Unpacked) → x.negative ≡ is_negative (datum_by category shape x)
sign_by Normal s x = refl
sign_by Zero s x = refl
sign_by Infinity s x = refl
sign_by NaN s x = refl

pub returns : goal.returns
returns g c =
    let n = sign_by c.unpacked.result.category (shape_of g.S.Flagged) c.unpacked.result in
    rw c.unpacked.ensures.datum (assumption n)
