use Rattle.std.specs.Prelude.{◌≡◌, ℕ, ◌^◌, ◌<◌, List, length, slice_index}
use Rattle.apfloat_model.specs.rounding.RoundingToOdd.{odd_quotient}
use Rattle.apfloat_arrays.specs.{Blocks.value_at, Bytes.number_of}
use Rattle.apfloat_arrays.proofs.short_singles.ShortPlanBlockPlan.read_halves.Given as goal

pub record AreRead (halves bytes : List ℕ) (count index : ℕ) : Type 0 where
  pub size : length halves ≡ count
  pub each : (k : ℕ) → k < index → slice_index halves k ≡ odd_quotient (number_of (value_at 4 k bytes)) (2 ^ 16)

abbrev pub invariant-loop-index : goal.invariant-loop-index
invariant-loop-index g l = AreRead l.uppers l.bytes g.row.N l.index
