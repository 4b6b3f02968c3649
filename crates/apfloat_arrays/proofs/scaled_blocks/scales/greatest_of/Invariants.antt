use Rattle.std.proofs.Common.{◌≡◌, true, false}
use Rattle.rustc_apfloat.specs.{Datum.finite, Types.constants_of, Types.format_of}
use Rattle.apfloat_model.specs.formats.Members.{IsMember}
use Rattle.small_formats.specs.blocks.Magnitudes.{are_finite, greatest_magnitude}
use Rattle.apfloat_arrays.specs.scaled_blocks.Values.{values_in}
use Rattle.apfloat_arrays.proofs.scaled_blocks.scales.greatest_of.Given as goal

-- the values before the index are finite; `greatest` is the greatest magnitude of them, and a value of the format
abbrev pub invariant-loop-index : goal.invariant-loop-index
invariant-loop-index g l =
    (are_finite (values_in (constants_of g.S.Semantics) l.width l.bytes l.first l.index) ≡ true)
    × (l.greatest
    ≡ finite false (greatest_magnitude (values_in (constants_of g.S.Semantics) l.width l.bytes l.first l.index)))
    × IsMember (format_of g.S.Semantics) l.greatest
