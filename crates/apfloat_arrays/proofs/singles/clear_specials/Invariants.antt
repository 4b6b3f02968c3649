use Rattle.std.specs.Prelude.{◌≡◌, ℕ, ◌<◌, ◌≤◌, List, length, slice_index}
use Rattle.apfloat_arrays.specs.Rows.{lower_in, number_in}
use Rattle.apfloat_arrays.proofs.singles.clear_specials.Given as goal

pub record AreCleared (old_uppers old_lowers uppers lowers : List ℕ) (count index : ℕ) : Type 0 where
  pub size : length uppers ≡ count
  pub lower_size : length lowers ≡ count
  pub each : (k : ℕ) → k < index → slice_index uppers k ≡ number_in (slice_index old_uppers k)
  pub each_lower : (k : ℕ) → k < index
      → slice_index lowers k ≡ lower_in (slice_index old_uppers k) (slice_index old_lowers k)
  pub rest : (k : ℕ) → index ≤ k → slice_index uppers k ≡ slice_index old_uppers k
  pub rest_lower : (k : ℕ) → index ≤ k → slice_index lowers k ≡ slice_index old_lowers k

abbrev pub invariant-loop-index : goal.invariant-loop-index
invariant-loop-index g l = AreCleared l.fn.uppers l.fn.lowers l.uppers l.lowers g.row.N l.index
