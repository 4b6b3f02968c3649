use Rattle.std.proofs.Common.{◌≡◌, take, false}
use Rattle.apfloat_model.specs.formats.{Datum.finite, Members.IsMember}
use Rattle.apfloat_ieee.specs.Types.{format_of}
use Rattle.small_formats.specs.blocks.Magnitudes.{greatest_magnitude}
use Rattle.small_formats.proofs.blocks.magnitudes.greatest_of.Given as goal

-- `greatest` is the greatest magnitude of the values before the index, and a value of the format
abbrev pub invariant-loop-index : goal.invariant-loop-index
invariant-loop-index g l =
    (l.greatest ≡ finite false (greatest_magnitude (take l.index l.values)))
    × IsMember (format_of g.S.Semantics) l.greatest
