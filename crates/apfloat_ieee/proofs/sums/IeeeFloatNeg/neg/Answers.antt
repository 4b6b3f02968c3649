use Rattle.apfloat_ieee.proofs.sums.IeeeFloatNeg.neg.Goals as goal

pub returns : goal.returns
returns g c =
    let d = rw c.shape_of.ensures at c.negated.ensures.datum in
    rw (c.packed.ensures, c.unpacked.ensures.datum) d
