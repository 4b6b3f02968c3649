use Rattle.std.specs.Prelude.{◌≡◌, ℕ, ◌/◌, ◌%◌, ◌^◌, ◌<◌, List, length, slice_index}
use Rattle.apfloat_arrays.specs.{Blocks.value_at, Bytes.number_of}
use Rattle.apfloat_arrays.proofs.singles.PlanBlockPlan.read_halves.Given as goal

pub record AreRead (uppers lowers bytes : List ℕ) (count index : ℕ) : Type 0 where
  pub size : length uppers ≡ count
  pub lower_size : length lowers ≡ count
  pub upper : (k : ℕ) → k < index → slice_index uppers k ≡ number_of (value_at 4 k bytes) / 2 ^ 16
  pub lower : (k : ℕ) → k < index → slice_index lowers k ≡ number_of (value_at 4 k bytes) % 2 ^ 16

abbrev pub invariant-loop-index : goal.invariant-loop-index
invariant-loop-index g l = AreRead l.uppers l.lowers l.bytes g.row.N l.index
