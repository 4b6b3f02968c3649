use Rattle.std.specs.Prelude.{◌≡◌, ℕ, ◌<◌, ◌≤◌, List, length, slice_index}
use Rattle.apfloat_arrays.specs.Rows.{number_in}
use Rattle.apfloat_arrays.proofs.short_singles.clear_specials.Given as goal

pub record AreCleared (old halves : List ℕ) (count index : ℕ) : Type 0 where
  pub size : length halves ≡ count
  pub each : (k : ℕ) → k < index → slice_index halves k ≡ number_in (slice_index old k)
  pub rest : (k : ℕ) → index ≤ k → slice_index halves k ≡ slice_index old k

abbrev pub invariant-loop-index : goal.invariant-loop-index
invariant-loop-index g l = AreCleared l.fn.halves l.halves g.row.N l.index
