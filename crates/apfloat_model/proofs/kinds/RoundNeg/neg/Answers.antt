use Rattle.apfloat_model.proofs.kinds.RoundNeg.neg.Goals as goal

pub returns-in-TowardZero : goal.returns-in-TowardZero
returns-in-TowardZero c = rw c.in-TowardZero.is

pub returns-in-TowardPositive : goal.returns-in-TowardPositive
returns-in-TowardPositive c = rw c.in-TowardPositive.is

pub returns-in-TowardNegative : goal.returns-in-TowardNegative
returns-in-TowardNegative c = rw c.in-TowardNegative.is

pub returns-in-NearestTiesToEven : goal.returns-in-NearestTiesToEven
returns-in-NearestTiesToEven c = rw c.in-NearestTiesToEven.is

pub returns-in-NearestTiesToAway : goal.returns-in-NearestTiesToAway
returns-in-NearestTiesToAway c = rw c.in-NearestTiesToAway.is
