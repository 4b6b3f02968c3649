use Rattle.std.specs.Prelude.{ℕ, ◌*◌, ◌%◌, ◌^◌, ◌<◌, IsTrue}
use Rattle.apfloat_arrays.specs.{Blocks.value_at, Bytes.number_of}
use Rattle.apfloat_arrays.proofs.specials.are_numbers.Given as goal

abbrev pub invariant-loop-index : goal.invariant-loop-index
invariant-loop-index l =
    IsTrue l.numbers → (k : ℕ) → k < l.index → number_of (value_at 4 k l.bytes) % 2 ^ 31 < 255 * 2 ^ 23
