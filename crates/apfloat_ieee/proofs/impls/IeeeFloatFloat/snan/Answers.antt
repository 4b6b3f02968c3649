use Rattle.apfloat_ieee.proofs.impls.IeeeFloatFloat.snan.Goals as goal

pub returns : goal.returns
returns g c =
    let d = rw (c.shape_of.ensures, c.unwrap_or.ensures) at c.signaling_nan.ensures.datum in
    rw c.packed.ensures (assumption d)
