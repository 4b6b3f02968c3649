use Rattle.std.proofs.Common.{◌≡◌, ℕ, ◌*◌, ◌^◌, ◌<◌, length}
use Rattle.apfloat_model.specs.order.Classes.{quanta_of}
use Rattle.apfloat_ieee.specs.Types.{format_of}
use Rattle.small_formats.specs.blocks.Elements.{IsQuotientBy}
use Rattle.small_formats.proofs.blocks_lemmas.Places.{AreWritten}
use Rattle.small_formats.proofs.blocks.mx.write_quotients.Given as goal

-- the elements before the index, whatever fraction the divisor is written as
abbrev pub invariant-loop-index : goal.invariant-loop-index
invariant-loop-index g l =
    (length l.codes ≡ length l.values)
    × ((divisor unit : ℕ) → 0 < divisor → divisor * 2 ^ (format_of g.R.Semantics).scale ≡ quanta_of l.y * unit
    → AreWritten (IsQuotientBy l.element (format_of g.S.Semantics) l.round divisor unit) l.index l.values l.codes
    l.counts)
