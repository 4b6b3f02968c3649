-- Counts of elements that raise no flag.
use Rattle.std.proofs.Common.{◌≡◌, ℕ, zero, suc, ◌+◌, Bool, true, false, cond, refl, replicate, arith}
use Rattle.small_formats.specs.blocks.Places.{count_raised, counts_of, is_raised}

none_raised : (flag n : ℕ) → is_raised flag 0 ≡ false → count_raised flag (replicate n 0) ≡ 0
none_raised flag zero off = refl
none_raised flag (suc n) off = one_none (is_raised flag 0) (count_raised flag (replicate n 0)) off
    (none_raised flag n off)
  where
    one_none : (test : Bool) (rest : ℕ) → test ≡ false → rest ≡ 0 → cond test 1 0 + rest ≡ 0
    one_none true rest e f = cc
    one_none false rest e f = omega (arith, f)

pub none_counted : (n : ℕ)
    → record { invalid = 0; overflow = 0; underflow = 0; inexact = 0 } ≡ counts_of (replicate n 0)
none_counted n =
    let invalid = none_raised 1 n refl in
    let overflow = none_raised 4 n refl in
    let underflow = none_raised 8 n refl in
    let inexact = none_raised 16 n refl in
    cc
