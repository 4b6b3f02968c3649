use Rattle.std.specs.Prelude.{ℕ, ◌*◌, ◌%◌, ◌^◌, ◌<◌, slice_index, IsTrue}
use Rattle.apfloat_arrays.proofs.specials.are_finite.Given as goal

abbrev pub invariant-loop-index : goal.invariant-loop-index
invariant-loop-index g l =
    IsTrue l.finite → (k : ℕ) → k < l.index → slice_index l.halves k % 2 ^ 15 < 255 * 2 ^ 7
