use Rattle.std.proofs.Common.{◌^◌, ◌≤◌, arith}
use Rattle.std.proofs.Math.Nat.{pow-le-pow_right}
use Rattle.apfloat_model.proofs.{general.Powers.two_pos, arithmetic.NextBack.next_back}
use Rattle.apfloat_rounding.specs.Stored.{datum_at}
use Rattle.apfloat_rounding.proofs.StoredMembers.{member_is}
use Rattle.apfloat_ieee.specs.FlaggedTypes.{shape_of, format_of}
use Rattle.apfloat_ieee.proofs.impls.IeeeFloatFloat.next_up.Goals as goal

pub returns-clause-back : goal.returns-clause-back
returns-clause-back g c = λ k z.
    let s = shape_of g.S.Flagged in
    let v = c.shape_of.ensures in
    let n = rw v at c.next_up.ensures.next in
    let m = member_is (shape_of g.S.Flagged) c.unpacked.result c.unpacked.ensures.stored in
    let l = g.S.Flagged.lawful.parameters.precision_low in
    let p : 2 ^ 3 ≤ 2 ^ g.S.Flagged.PRECISION = pow-le-pow_right two_pos l in
    let d = c.unpacked.ensures.datum in
    let b = next_back (format_of g.S.Flagged) (datum_at s c.unpacked.result) (datum_at s c.next_up.result.value) _
    k (omega (arith, p)) m (rw d at z) n in
    rw (c.answered.ensures.value, d) (assumption b)

pub returns-clause-next : goal.returns-clause-next
returns-clause-next g c =
    let d = rw c.shape_of.ensures at c.next_up.ensures.next in
    rw (c.unpacked.ensures.datum, c.answered.ensures.value, c.answered.ensures.status) (assumption d)
