use Rattle.std.specs.Int.{w128}
use Rattle.std.proofs.Common.{◌≡◌, rules, to_z, of_z}
use Rattle.apfloat_ieee.proofs.impls.IeeeFloatFloat.to_i128_r.Goals as goal

pub returns : goal.returns
returns g c =
    let d = rw c.shape_of.ensures at c.to_signed-whole.ensures in
    let same : to_z w128 (of_z w128 c.to_signed-whole.result.answer.value) ≡ c.to_signed-whole.result.answer.value =
    search rules in
    rw (c.and.ensures.status, c.and.ensures.value, c.unpacked.ensures.datum, same) (assumption d)
