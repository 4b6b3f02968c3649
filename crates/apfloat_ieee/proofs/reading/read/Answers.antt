use Rattle.apfloat_ieee.proofs.reading.read.Goals as goal

pub returns-in-Ok : goal.returns-in-Ok
returns-in-Ok g c =
    let d = rw c.shape_of.ensures at c.in-Ok.ensures.reading in
    rw (c.answered.ensures.value, c.answered.ensures.status) d

pub returns-in-Err : goal.returns-in-Err
returns-in-Err g c = c.in-Err.ensures
