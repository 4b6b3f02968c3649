use Rattle.apfloat_pair_theory.proofs.pairs.PairBits.{pair_encoded_by_or, pair_read_back}
use Rattle.rustc_apfloat.proofs.double_doubles.parts.bits_of.Goals as goal

pub returns-clause-written : goal.returns-clause-written
returns-clause-written c =
    rw (← c.x.view_is) (pair_encoded_by_or _ _ _ c.to_bits.ensures.written c.to_bits-2.ensures.written)

pub returns-clause-back : goal.returns-clause-back
returns-clause-back c =
    rw (← c.x.view_is)
    (pair_read_back _ _ (pair_encoded_by_or _ _ _ c.to_bits.ensures.written c.to_bits-2.ensures.written))
