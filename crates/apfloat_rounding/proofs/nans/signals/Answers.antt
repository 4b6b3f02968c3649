use Rattle.apfloat_rounding.proofs.nans.signals.Goals as goal

pub returns : goal.returns
returns c = rw c.quiet_bits-bits.ensures
