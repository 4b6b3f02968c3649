use Rattle.std.proofs.Common.{◌≡◌, take, true}
use Rattle.small_formats.specs.blocks.Magnitudes.{are_finite}
use Rattle.small_formats.proofs.blocks.magnitudes.are_finite.Given as goal

abbrev pub invariant-loop-index : goal.invariant-loop-index
invariant-loop-index g l = are_finite (take l.index l.values) ≡ true
