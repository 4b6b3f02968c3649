use Rattle.apfloat_ieee.proofs.impls.IeeeFloatFloat.largest.Goals as goal

pub returns : goal.returns
returns g c =
    let d = rw c.shape_of.ensures at c.largest_of.ensures.datum in
    rw c.packed.ensures (assumption d)
