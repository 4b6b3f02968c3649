use Rattle.std.specs.Prelude.{◌-◌, ◌*◌}
use Rattle.rustc_apfloat.specs.Types.{constants_of}
use Rattle.apfloat_arrays.specs.{Blocks.IsBlock, stored.Arrays.IsStoredIn}
use Rattle.apfloat_arrays.proofs.stored.e3m4_arrays.store_singles.Given as goal

-- the values before the index of the next block, but no more than there are
abbrev pub invariant-loop-index : goal.invariant-loop-index
invariant-loop-index g l =
    let call = l.call in
    IsBlock (IsStoredIn call.overflow (constants_of g.S.Semantics) call.target call.round) call.width 1
    (call.count - (call.count - l.index * 64)) call.input.now l.output l.counts
