use Rattle.std.proofs.Common.{ℕ, ◌*◌, ◌^◌, ◌<◌, take}
use Rattle.std.specs.Prelude.{All}
use Rattle.small_formats.proofs.packing_lemmas.Groups.{ArePackedTo}
use Rattle.small_formats.proofs.packing.fours.unpack_fours.Given as goal

abbrev pub invariant-loop-index : goal.invariant-loop-index
invariant-loop-index l =
    All (λ (code : ℕ). code < 2 ^ 4) (take (2 * l.index) l.codes) × ArePackedTo 4 l.codes l.bytes (2 * l.index) l.index
