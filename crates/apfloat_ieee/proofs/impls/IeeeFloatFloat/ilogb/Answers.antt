use Rattle.std.proofs.{Common.w32, lemmas.Int.to_z-of_z}
use Rattle.apfloat_ieee.proofs.impls.IeeeFloatFloat.ilogb.Goals as goal

pub returns : goal.returns
returns g c =
    let e = to_z-of_z w32 c.ilogb.result (record { sfits = c.ilogb.type_inv }) in
    let d = rw c.shape_of.ensures at c.ilogb.ensures in
    rw (c.unpacked.ensures.datum, e) (assumption d)
