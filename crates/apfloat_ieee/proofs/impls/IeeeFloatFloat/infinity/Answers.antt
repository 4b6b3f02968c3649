use Rattle.apfloat_ieee.proofs.impls.IeeeFloatFloat.infinity.Goals as goal

pub returns : goal.returns
returns g c =
    let d = rw c.shape_of.ensures at c.infinity_of.ensures.datum in
    rw c.packed.ensures (assumption d)
