use Rattle.std.proofs.Common.{◌≡◌, ℕ, ◌*◌, ◌^◌, ◌<◌, length, take}
use Rattle.std.specs.Prelude.{All}
use Rattle.small_formats.proofs.packing_lemmas.Groups.{ArePackedTo}
use Rattle.small_formats.proofs.packing.sixes.unpack_sixes.Given as goal

abbrev pub invariant-loop-index : goal.invariant-loop-index
invariant-loop-index l =
    (length l.codes ≡ 4 * l.groups) × All (λ (code : ℕ). code < 2 ^ 6) (take (4 * l.index) l.codes)
    × ArePackedTo 6 l.codes l.bytes (4 * l.index) (3 * l.index)
