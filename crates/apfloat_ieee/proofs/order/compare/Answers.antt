use Rattle.apfloat_ieee.specs.FlaggedTypes.{shape_of}
use Rattle.apfloat_ieee.proofs.order.compare.Goals as goal

pub returns : goal.returns
returns g c =
    rw (c.unpacked.ensures.datum, c.unpacked-2.ensures.datum)
    (c.compare.ensures (shape_of g.S.Flagged) c.unpacked.ensures.stored c.unpacked-2.ensures.stored)
