-- The binary logarithm of a positive number, rounded down.
use Rattle.std.proofs.Common.{◌≡◌, ℕ, ◌+◌, ◌-◌, ◌*◌, ◌^◌, ◌<◌, ◌≤◌, ⊎_elim, arith}
use Rattle.std.proofs.{lemmas.Nat.leading_top, lemmas.Nat.pow_pos, lemmas.Bool.cases_order, Math.Nat.two-pow-succ}
use Rattle.std.specs.Int.Count.{count_leading_zeros}
use Rattle.apfloat_model.specs.formats.Log.{log2}
use Rattle.apfloat_model.proofs.general.Powers.{below_power, half_at_most}

-- a number is at least the power of its logarithm, and below twice that power
pub log2_bounds : (n : ℕ) → 0 < n → (2 ^ log2 n ≤ n) × (n < 2 * 2 ^ log2 n)
unfolding log2
log2_bounds n h =
    let t = leading_top n n h (below_power n) in
    let e : n - (count_leading_zeros n n + 1) ≡ t.0 = omega (arith, t.1) in
    rw e (t.2, omega (arith, t.3, two-pow-succ t.0))

-- the power of two whose interval contains a number is that of its logarithm
pub log2_is : (n k : ℕ) → 2 ^ k ≤ n → n < 2 * 2 ^ k → log2 n ≡ k
log2_is n k low high =
    let b = log2_bounds n (omega (arith, pow_pos k)) in
    ⊎_elim
    (λ (p : log2 n ≡ k). p)
    (⊎_elim
    (λ (p : log2 n < k). absurd (omega (arith, half_at_most (log2 n) k p, b)))
    (λ (p : k < log2 n). absurd (omega (arith, half_at_most k (log2 n) p, b))))
    (cases_order (log2 n) k)
