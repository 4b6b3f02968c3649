use Rattle.std.proofs.Common.{◌*◌}
use Rattle.small_formats.proofs.packing_lemmas.Groups.{ArePackedTo}
use Rattle.small_formats.proofs.packing.fours.pack_fours.Given as goal

abbrev pub invariant-loop-index : goal.invariant-loop-index
invariant-loop-index l = ArePackedTo 4 l.codes l.bytes (2 * l.index) l.index
