use Rattle.apfloat_model.specs.rounding.Flags.{bits_of}
use Rattle.apfloat_model.proofs.arithmetic.SumLaws.{monotone}
use Rattle.apfloat_rounding.specs.Stored.{datum_at}
use Rattle.apfloat_ieee.specs.FlaggedTypes.{format_of, shape_of}
use Rattle.apfloat_ieee.proofs.sums.sum.Goals as goal

pub returns-clause-monotone : goal.returns-clause-monotone
returns-clause-monotone g c =
    let s = shape_of g.S.Flagged in
    let d = rw c.shape_of.ensures at c.add.ensures.delivered in
    let e = rw (← c.unpacked.ensures.datum, ← c.unpacked-2.ensures.datum) at d in
    rw c.answered.ensures.value (monotone (format_of g.S.Flagged) c.args.round c.args.x c.args.y
    (datum_at s c.add.result.value) (bits_of c.add.result.status) e)

pub returns-clause-sum : goal.returns-clause-sum
returns-clause-sum g c =
    let d = rw c.shape_of.ensures at c.add.ensures.delivered in
    rw (c.answered.ensures.value, c.answered.ensures.status, c.unpacked.ensures.datum, c.unpacked-2.ensures.datum) d
