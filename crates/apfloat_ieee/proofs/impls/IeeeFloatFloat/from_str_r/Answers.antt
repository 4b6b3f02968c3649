use Rattle.apfloat_ieee.proofs.impls.IeeeFloatFloat.from_str_r.Goals as goal

pub returns : goal.returns
returns g c = rw c.as_bytes.ensures.value at c.read.ensures
