use Rattle.apfloat_arrays.specs.Blocks.{IsBlock}
use Rattle.apfloat_arrays.proofs.each.convert_each.Given as goal

-- the values before the index
abbrev pub invariant-loop-index : goal.invariant-loop-index
invariant-loop-index g l =
    IsBlock (g.C.ValueConversion.gives l.conversion) l.widths.source l.widths.target l.index l.input l.output l.counts
