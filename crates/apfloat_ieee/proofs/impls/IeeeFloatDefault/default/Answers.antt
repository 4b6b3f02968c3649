use Rattle.apfloat_model.proofs.arithmetic.Signs.{plus_zero}
use Rattle.apfloat_ieee.proofs.impls.IeeeFloatDefault.default.Goals as goal

pub returns : goal.returns
returns g c =
    let d = rw c.shape_of.ensures at c.zero_of.ensures.datum in
    let p = rw (plus_zero g.S.Flagged.NONFINITE_BEHAVIOR) at d in
    rw c.packed.ensures (assumption p)
