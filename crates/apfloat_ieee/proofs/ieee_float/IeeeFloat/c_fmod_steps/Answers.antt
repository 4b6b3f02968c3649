use Rattle.apfloat_ieee.proofs.ieee_float.IeeeFloat.c_fmod_steps.Goals as goal

pub returns-clause-answer : goal.returns-clause-answer
returns-clause-answer g c =
    let d = rw c.shape_of.ensures at c.counted_remainder-remainder.ensures.delivered in
    rw (c.answered.ensures.value, c.answered.ensures.status, c.unpacked.ensures.datum, c.unpacked-2.ensures.datum) d

pub returns-clause-steps : goal.returns-clause-steps
returns-clause-steps g c =
    let d = rw c.shape_of.ensures at c.counted_remainder-remainder.ensures.steps in
    rw (c.unpacked.ensures.datum, c.unpacked-2.ensures.datum) d

pub returns-clause-few : goal.returns-clause-few
returns-clause-few g c =
    let d = rw c.shape_of.ensures at c.counted_remainder-remainder.ensures.few in
    rw (c.unpacked.ensures.datum, c.unpacked-2.ensures.datum) d
