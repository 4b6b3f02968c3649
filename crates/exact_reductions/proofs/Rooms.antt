-- How many terms fit in the words of a sum.
use Rattle.std.proofs.Common.{ℕ, ◌+◌, ◌*◌, ◌^◌, ◌<◌, ◌≤◌, arith}
use Rattle.std.proofs.Math.Nat.{mul-le-mul_right}
use Rattle.apfloat_decimals.specs.Words.{weight}
use Rattle.apfloat_decimals.proofs.numbers.Values.{weight_some}

below_top : (amount terms words : ℕ) → amount * 2 ^ 64 ≤ terms * weight words → terms < 2 ^ 64 → amount < weight words
below_top amount terms words a t =
    let some : 0 < weight words = weight_some words in
    let most : (terms + 1) * weight words ≤ 2 ^ 64 * weight words = mul-le-mul_right (weight words) (omega arith) in
    omega arith

-- one term more
pub one_more : (amount more terms words : ℕ) → amount * 2 ^ 64 ≤ terms * weight words
    → more * 2 ^ 64 ≤ weight words → (amount + more) * 2 ^ 64 ≤ (terms + 1) * weight words
one_more amount more terms words a m = omega arith

pub one_fits : (amount more terms words : ℕ) → amount * 2 ^ 64 ≤ terms * weight words
    → more * 2 ^ 64 ≤ weight words → terms + 1 < 2 ^ 64 → amount + more < weight words
one_fits amount more terms words a m t =
    below_top (amount + more) (terms + 1) words (one_more amount more terms words a m) t

-- the terms of two sums
pub both_more : (amount other m n words : ℕ) → amount * 2 ^ 64 ≤ m * weight words
    → other * 2 ^ 64 ≤ n * weight words → (amount + other) * 2 ^ 64 ≤ (m + n) * weight words
both_more amount other m n words a b = omega arith

pub both_fit : (amount other m n words : ℕ) → amount * 2 ^ 64 ≤ m * weight words
    → other * 2 ^ 64 ≤ n * weight words → m + n < 2 ^ 64 → amount + other < weight words
both_fit amount other m n words a b t =
    below_top (amount + other) (m + n) words (both_more amount other m n words a b) t
