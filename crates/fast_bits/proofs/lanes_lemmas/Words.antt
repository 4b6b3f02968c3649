-- The significand of a single by both halves of its bits.
use Rattle.std.proofs.Common.{◌≡◌, ℕ, ◌+◌, ◌-◌, ◌*◌, ◌/◌, ◌%◌, ◌^◌, ◌<◌, ◌≤◌, ◌⊎◌, min, eqb, ◌&&◌, sym, ap, ◌∙◌, inl}
use Rattle.std.proofs.{Common.inr, Common.⊎_elim, Common.arith, Math.Nat.min-eq_left, Math.Nat.min-eq_right}
use Rattle.std.proofs.lemmas.Bool.{cases_eq, cases_lt, eq-eqb, ne_eqb}
use Rattle.fast_bits.proofs.lanes_lemmas.{Singles.place_of, Singles.significand_of, UpperHalves.short_significand}

-- it has 24 digits, and all of them unless the number is denormal
pub word_significand_fits : (magnitude lower : ℕ) → lower < 2 ^ 16
    → (short_significand magnitude * 2 ^ 16 + lower < 2 ^ 24)
    × ((magnitude / 2 ^ 7 - 1 ≡ 0) ⊎ (2 ^ 23 ≤ short_significand magnitude * 2 ^ 16 + lower))
word_significand_fits magnitude lower below =
    ⊎_elim {C = (short_significand magnitude * 2 ^ 16 + lower < 2 ^ 24)
    × ((magnitude / 2 ^ 7 - 1 ≡ 0) ⊎ (2 ^ 23 ≤ short_significand magnitude * 2 ^ 16 + lower))}
    (λ (l : magnitude / 2 ^ 7 < 1).
    let le : magnitude / 2 ^ 7 ≤ 1 = omega (arith, l) in
    let e = min-eq_left le in (omega (arith, e, l, below), inl (omega (arith, l))))
    (λ (l : 1 ≤ magnitude / 2 ^ 7). let e = min-eq_right l in (omega (arith, e, below), inr (omega (arith, e))))
    (cases_lt (magnitude / 2 ^ 7) 1)

-- what the halves of a word say of it
pub record IsWord (upper lower x : ℕ) : Type 0 where
  pub below : x < 2 ^ 32
  pub sign : upper / 2 ^ 15 ≡ x / 2 ^ 31
  pub magnitude : upper % 2 ^ 15 * 2 ^ 16 + lower ≡ x % 2 ^ 31
  pub significand : short_significand (upper % 2 ^ 15) * 2 ^ 16 + lower ≡ significand_of (x % 2 ^ 31)
  pub place : upper % 2 ^ 15 / 2 ^ 7 - 1 ≡ place_of (x % 2 ^ 31)

pub word_is : (upper lower : ℕ) → upper < 2 ^ 16 → lower < 2 ^ 16 → IsWord upper lower (upper * 2 ^ 16 + lower)
word_is upper lower word below =
    let x = upper * 2 ^ 16 + lower in
    let exponent : upper % 2 ^ 15 / 2 ^ 7 ≡ x % 2 ^ 31 / 2 ^ 23 = omega (arith, below) in
    let ones : min (upper % 2 ^ 15 / 2 ^ 7) 1 ≡ min (x % 2 ^ 31 / 2 ^ 23) 1 = ap (λ (n : ℕ). min n 1) exponent in
    let digits : upper % 2 ^ 15 % 2 ^ 7 * 2 ^ 16 + lower ≡ x % 2 ^ 31 % 2 ^ 23 = omega (arith, below) in
    record {
      below = omega (arith, word, below);
      sign = omega (arith, below);
      magnitude = omega (arith, below);
      significand = omega (arith, ones, digits);
      place = omega (arith, exponent);
    }

-- a word is zero if both halves are
pub both_zero : (upper lower : ℕ) → (eqb upper 0 && eqb lower 0) ≡ eqb (upper * 2 ^ 16 + lower) 0
both_zero upper lower =
    ⊎_elim {C = (eqb upper 0 && eqb lower 0) ≡ eqb (upper * 2 ^ 16 + lower) 0}
    (λ (z : upper ≡ 0).
    let same : lower ≡ upper * 2 ^ 16 + lower = omega (arith, z) in
    ap (λ b. b && eqb lower 0) (eq-eqb upper 0 z) ∙ ap (λ (n : ℕ). eqb n 0) same)
    (λ (n : upper ≡ 0 → ⊥).
    ap (λ b. b && eqb lower 0) (ne_eqb upper 0 n)
    ∙ sym (ne_eqb (upper * 2 ^ 16 + lower) 0 (λ e. n (omega (arith, e)))))
    (cases_eq upper 0)
