use Rattle.std.proofs.Common.{◌^◌, length}
use Rattle.rustc_apfloat.specs.Types.{constants_of, format_of}
use Rattle.small_formats.specs.blocks.Elements.{IsQuotientBy}
use Rattle.small_formats.proofs.blocks_lemmas.Places.{AreWritten}
use Rattle.apfloat_arrays.specs.scaled_blocks.Values.{values_in}
use Rattle.apfloat_arrays.proofs.scaled_blocks.elements.write_numbers.Given as goal

-- the elements before the index
abbrev pub invariant-loop-index : goal.invariant-loop-index
invariant-loop-index g l =
    AreWritten (IsQuotientBy l.call.element (format_of g.S.Semantics) l.call.round (2 ^ l.call.scale) (2 ^ 127)) l.index
    (values_in (constants_of g.S.Semantics) l.call.width l.call.values.now l.call.first (length l.codes)) l.codes
    l.counts
