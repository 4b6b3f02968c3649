use Rattle.apfloat_ieee.proofs.impls.IeeeFloatFloat.get_exact_inverse.Goals as goal

pub returns-in-None : goal.returns-in-None
returns-in-None g c =
    let d = rw (c.shape_of.ensures, c.in-None.is) at c.exact_inverse.ensures.inverse in
    rw c.unpacked.ensures.datum d
