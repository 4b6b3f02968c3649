use Rattle.std.proofs.Common.{◌≡◌, ℕ, ◌*◌, ◌^◌, ◌<◌, length}
use Rattle.rustc_apfloat.specs.Types.{constants_of, format_of}
use Rattle.apfloat_model.specs.order.Classes.{quanta_of}
use Rattle.small_formats.specs.blocks.Elements.{IsQuotientBy}
use Rattle.small_formats.proofs.blocks_lemmas.Places.{AreWritten}
use Rattle.apfloat_arrays.specs.scaled_blocks.Values.{values_in}
use Rattle.apfloat_arrays.proofs.scaled_blocks.quantizing.write_codes.Given as goal

-- the elements before the index, whatever fraction the scale is written as
abbrev pub invariant-loop-index : goal.invariant-loop-index
invariant-loop-index g l =
    (divisor unit : ℕ) → 0 < divisor → divisor * 2 ^ (format_of g.R.Semantics).scale ≡ quanta_of l.scale * unit
    → AreWritten (IsQuotientBy l.element (format_of g.S.Semantics) l.round divisor unit) l.index
    (values_in (constants_of g.S.Semantics) l.width l.values l.first (length l.codes)) l.codes l.counts
