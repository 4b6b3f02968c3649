use Rattle.std.specs.Prelude.{ℕ, List}
use Rattle.fast_bits.specs.lanes.{Targets.IsSingleFormat, FewCounts.FewAreAtMost}
use Rattle.fast_bits.specs.declared.lanes.few_counts.FewCounts.{FewCounts}
use Rattle.rustc_apfloat.specs.{Lawful.Constants, Lawful.format_with, Lawful.layout_with, declared.Round.Round}
use Rattle.small_formats.specs.declared.saturation.saturation.Overflow.{Overflow}
use Rattle.apfloat_arrays.specs.{Rows.AreTaken, Rows.IsRow, Singles.counts_with, Values.IsConvertedBy}
use Rattle.apfloat_arrays.proofs.singles.convert_halves.Given as goal

pub record AreConverted (IsFor : Overflow → Constants → Round → Type 0) (Takes : ℕ → ℕ → ℕ → Type 0)
    (width count index : ℕ) (uppers lowers output : List ℕ) (few : FewCounts) : Type 0 where
  pub few_are : FewAreAtMost index few
  pub row : (overflow : Overflow) (c d : Constants) (mode : Round) (given : ℕ → List ℕ)
      → IsSingleFormat (format_with c) (layout_with c) → IsFor overflow d mode
      → AreTaken Takes count uppers lowers given
      → IsRow (IsConvertedBy overflow c d mode) given width index output (counts_with few index)

abbrev pub invariant-loop-index : goal.invariant-loop-index
invariant-loop-index g l =
    AreConverted (g.P.SinglesPlan.is_for l.plan) g.P.SinglesPlan.takes l.width g.row.N l.index l.uppers l.lowers
    l.output l.few
