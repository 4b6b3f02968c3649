use Rattle.apfloat_rounding.proofs.nans.is_signaling.Goals as goal

pub returns-in-Infinity : goal.returns-in-Infinity
returns-in-Infinity c = rw c.in-Infinity.is
