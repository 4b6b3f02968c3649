use Rattle.std.proofs.Common.{◌∙◌}
use Rattle.apfloat_arithmetic.proofs.Comparisons.{magnitudes_compared}
use Rattle.apfloat_ieee.specs.FlaggedTypes.{shape_of}
use Rattle.apfloat_ieee.proofs.impls.IeeeFloatFloat.cmp_abs_normal.Goals as goal

pub returns : goal.returns
returns g c =
    rw (c.unpacked.ensures.datum, c.unpacked-2.ensures.datum)
    (magnitudes_compared (shape_of g.S.Flagged) c.unpacked.result c.unpacked-2.result c.compare_magnitudes.result
    (c.unpacked.ensures.category ∙ c.requires.left) (c.unpacked-2.ensures.category ∙ c.requires.right)
    c.unpacked.ensures.stored c.unpacked-2.ensures.stored (c.compare_magnitudes.ensures (shape_of g.S.Flagged)))
