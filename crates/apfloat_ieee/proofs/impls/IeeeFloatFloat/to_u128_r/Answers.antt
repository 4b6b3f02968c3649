use Rattle.apfloat_ieee.proofs.impls.IeeeFloatFloat.to_u128_r.Goals as goal

pub returns-clause-answer : goal.returns-clause-answer
returns-clause-answer g c =
    let d = rw c.shape_of.ensures at c.to_unsigned-whole.ensures.whole in
    rw (c.and.ensures.status, c.and.ensures.value, c.unpacked.ensures.datum) (assumption d)

pub returns-clause-fits : goal.returns-clause-fits
returns-clause-fits g c = rw c.and.ensures.value (assumption)
