use Rattle.apfloat_model.specs.rounding.Flags.{bits_of}
use Rattle.apfloat_rounding.specs.{Shapes.format_at, Stored.datum_at}
use Rattle.apfloat_arithmetic.proofs.SumCases.{difference_is}
use Rattle.apfloat_arithmetic.proofs.sums.subtract.Goals as goal

pub returns-clause-delivered : goal.returns-clause-delivered
returns-clause-delivered c =
    let s = c.args.shape in
    let v = c.add.result in
    difference_is (format_at s) c.args.round (datum_at s c.args.x) (datum_at s c.args.y) (datum_at s v.value)
    (bits_of v.status) (rw c.added.ensures.datum at c.add.ensures.delivered)
