use Rattle.apfloat_rounding.proofs.unpacked.from_rounded_quanta.Goals as goal

pub from_full_quanta-requires-clause-full : goal.from_full_quanta-requires-clause-full
from_full_quanta-requires-clause-full c = rw (← c.integer_bit.ensures) c.if-significand-integer_bit.true
