use Rattle.std.proofs.Common.{ℕ, ◌<◌, ◌^◌, take}
use Rattle.std.specs.Prelude.{All}
use Rattle.small_formats.proofs.packing.narrow.are_narrow.Given as goal

-- the codes before the index have few bits
abbrev pub invariant-loop-index : goal.invariant-loop-index
invariant-loop-index l = All (λ (code : ℕ). code < 2 ^ l.bits) (take l.index l.codes)
