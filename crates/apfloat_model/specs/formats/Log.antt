-- The binary logarithm of a positive integer, rounded down.
use Rattle.std.specs.Prelude.{ℕ, ◌+◌, ◌-◌}
use Rattle.std.specs.Int.Count.{count_leading_zeros}

unfoldable pub log2 : ℕ → ℕ
log2 n = n - (count_leading_zeros n n + 1)
