use Rattle.std.proofs.Common.{◌≡◌, ◌*◌, length}
use Rattle.small_formats.proofs.packing_lemmas.Groups.{ArePackedTo}
use Rattle.small_formats.proofs.packing.sixes.pack_sixes.Given as goal

abbrev pub invariant-loop-index : goal.invariant-loop-index
invariant-loop-index l = (length l.codes ≡ 4 * l.groups) × ArePackedTo 6 l.codes l.bytes (4 * l.index) (3 * l.index)
