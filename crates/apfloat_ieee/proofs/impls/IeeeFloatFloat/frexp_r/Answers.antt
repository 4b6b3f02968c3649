use Rattle.std.proofs.Common.{◌≡◌, w32, to_z, of_z, rules}
use Rattle.apfloat_ieee.proofs.impls.IeeeFloatFloat.frexp_r.Goals as goal

pub returns : goal.returns
returns g c =
    let e : to_z w32 (of_z w32 c.fraction_of-fraction.result.exponent) ≡ c.fraction_of-fraction.result.exponent =
    search rules in
    let d = rw c.shape_of.ensures at c.fraction_of-fraction.ensures.fraction in
    rw (c.unpacked.ensures.datum, c.packed.ensures, e) (assumption d)
