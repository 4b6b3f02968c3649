-- Doubles whose sums stay within the reach of the laws of sums of pairs.
use Rattle.std.specs.Prelude.{◌≡◌, ℕ, ◌+◌, ◌^◌, ◌≤◌, true}
use Rattle.rustc_apfloat.specs.{Datum.Datum, Classes.is_finite, Classes.quanta_of, PairFormats.double}

-- a number of at most `reach` quanta
pub record IsPlainSummand (reach : ℕ) (x : Datum) : Type 0 where
  pub is_finite : is_finite x ≡ true
  pub within : quanta_of x ≤ reach

-- 2 ^ 1020, in quanta: the sum of two such doubles, rounded, is still within the reach of a sum
abbrev pub reach_of_three : ℕ
reach_of_three = 2 ^ (1020 + double.scale)
