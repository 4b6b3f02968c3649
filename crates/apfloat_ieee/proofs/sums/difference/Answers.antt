use Rattle.apfloat_model.specs.rounding.Flags.{bits_of}
use Rattle.apfloat_model.proofs.arithmetic.SumLaws.{sterbenz}
use Rattle.apfloat_rounding.specs.Stored.{datum_at}
use Rattle.apfloat_rounding.proofs.StoredMembers.{member_is}
use Rattle.apfloat_ieee.specs.FlaggedTypes.{format_of, shape_of}
use Rattle.apfloat_ieee.proofs.sums.difference.Goals as goal

pub returns-clause-nearby : goal.returns-clause-nearby
returns-clause-nearby g c =
    let s = shape_of g.S.Flagged in
    let d = rw c.shape_of.ensures at c.subtract.ensures.delivered in
    let e = rw (← c.unpacked.ensures.datum, ← c.unpacked-2.ensures.datum) at d in
    let xm = member_is s c.unpacked.result c.unpacked.ensures.stored in
    let x = rw (← c.unpacked.ensures.datum) at xm in
    let ym = member_is s c.unpacked-2.result c.unpacked-2.ensures.stored in
    let y = rw (← c.unpacked-2.ensures.datum) at ym in
    rw (c.answered.ensures.value, c.answered.ensures.status)
    (sterbenz (format_of g.S.Flagged) c.args.round c.args.x c.args.y (datum_at s c.subtract.result.value)
    (bits_of c.subtract.result.status) x y e)

pub returns-clause-difference : goal.returns-clause-difference
returns-clause-difference g c =
    let d = rw c.shape_of.ensures at c.subtract.ensures.delivered in
    rw (c.answered.ensures.value, c.answered.ensures.status, c.unpacked.ensures.datum, c.unpacked-2.ensures.datum) d
