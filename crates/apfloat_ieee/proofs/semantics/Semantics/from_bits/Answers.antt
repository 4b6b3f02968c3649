use Rattle.apfloat_ieee.proofs.semantics.Semantics.from_bits.Goals as goal

pub returns : goal.returns
returns g c = c.decode.ensures
