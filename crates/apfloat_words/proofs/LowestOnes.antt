-- The lowest digit of a number that is 1, and how many zeros are below it.
use Rattle.std.proofs.Common.{◌≡◌, ℕ, zero, suc, ◌+◌, ◌-◌, ◌*◌, ◌/◌, ◌%◌, ◌^◌, ◌<◌}
use Rattle.std.proofs.Common.{◌≤◌, Bool, true, false, cond, bit_and, bit_or, refl, sym, ap, ◌∙◌, arith}
use Rattle.std.proofs.lemmas.Nat.{and_le_l, mod-pow-add, mod_below, or_block, or_comm, or_disjoint, pow_pos}
use Rattle.std.proofs.{lemmas.Nat.Bits.bit_at-trailing_zeros, Math.Nat.mod-eq_of_lt}
use Rattle.std.specs.Int.{trailing_zeros, w128, Count.trailing_of_zero}

-- if the lowest digits are all 0, the rest is 0
all_zero : (n places : ℕ) → ((i : ℕ) → i < places → n / 2 ^ i % 2 ≡ 0) → n % 2 ^ places ≡ 0
all_zero n zero f = omega arith
all_zero n (suc k) f =
    let e : 1 + k ≡ suc k = omega arith in
    let s : n % 2 ^ suc k ≡ n / 2 ^ k % 2 ^ 1 * 2 ^ k + n % 2 ^ k =
    ap (λ (x : ℕ). n % 2 ^ x) (sym e) ∙ mod-pow-add n 1 k in
    let z : n / 2 ^ k % 2 ≡ 0 = f k (omega arith) in
    let w : n / 2 ^ k % 2 ^ 1 * 2 ^ k ≡ 0 * 2 ^ k = ap (λ (x : ℕ). x * 2 ^ k) z in
    let r : n % 2 ^ k ≡ 0 = all_zero n k (λ i l. f i (omega arith)) in
    omega (arith, s, w, r)

-- if one of the lowest digits is 1, the rest is above 0
one_within : (n lowest places : ℕ) → n / 2 ^ lowest % 2 ≡ 1 → lowest < places → 0 < n % 2 ^ places
one_within n lowest places o l =
    let e : places - (1 + lowest) + (1 + lowest) ≡ places = omega arith in
    let a : n % 2 ^ places ≡ n / 2 ^ (1 + lowest) % 2 ^ (places - (1 + lowest)) * 2 ^ (1 + lowest)
    + n % 2 ^ (1 + lowest) = ap (λ (x : ℕ). n % 2 ^ x) (sym e) ∙ mod-pow-add n (places - (1 + lowest)) (1 + lowest) in
    let b : n % 2 ^ (1 + lowest) ≡ n / 2 ^ lowest % 2 ^ 1 * 2 ^ lowest + n % 2 ^ lowest = mod-pow-add n 1 lowest in
    let w : n / 2 ^ lowest % 2 ^ 1 * 2 ^ lowest ≡ 1 * 2 ^ lowest = ap (λ (x : ℕ). x * 2 ^ lowest) o in
    let p : 0 < 2 ^ lowest = pow_pos lowest in
    omega (arith, a, b, w, p)

-- a nonzero number of 128 digits has a nonzero rest exactly if the places are more than the zeros below its lowest 1
pub rest_past_zeros : (n places : ℕ) → 0 < n → n < 2 ^ 128
    → (trailing_zeros w128 n < places → 0 < n % 2 ^ places) × (places ≤ trailing_zeros w128 n → n % 2 ^ places ≡ 0)
rest_past_zeros n places p f =
    let h = bit_at-trailing_zeros w128 n p f in (
      λ l. one_within n (trailing_zeros w128 n) places h.1 l,
      λ l. all_zero n places (λ i k. h.2 i (omega (arith, k, l))),
    )

-- the same test of the rest holds for 0, whose 128 digits are all zeros, if there are at most 128 places
pub rest_within_zeros : (n places : ℕ) → (n ≡ 0 → places ≤ 128) → n < 2 ^ 128
    → (trailing_zeros w128 n < places → 0 < n % 2 ^ places) × (places ≤ trailing_zeros w128 n → n % 2 ^ places ≡ 0)
rest_within_zeros zero places g f =
    let z = trailing_of_zero 128 in
    let w = g refl in
    (λ l. absurd (omega (arith, l, z, w)), λ k. mod-eq_of_lt (pow_pos places))
rest_within_zeros (suc n) places g f = rest_past_zeros (suc n) places (omega arith) f

-- ---- setting the last digit

none_set : (n : ℕ) → bit_or n 0 ≡ n
none_set n = or_comm n 0 ∙ or_disjoint 0 n (and_none n) ∙ omega arith
  where
    and_none : (m : ℕ) → bit_and 0 m ≡ 0
    and_none m = omega (arith, and_le_l 0 m)

last_set : (d : ℕ) → d < 2 → bit_or d 1 ≡ 1
last_set zero l = refl
last_set (suc zero) l = refl
last_set (suc (suc d)) l = absurd (omega arith)

-- setting the last digit of a number, or leaving it unchanged
pub set_last : (n digit : ℕ) (is_set : Bool) → (is_set ≡ true → digit ≡ 1) → (is_set ≡ false → digit ≡ 0)
    → bit_or n digit ≡ cond is_set (n + (1 - n % 2)) n
set_last n digit false f g = ap (λ (x : ℕ). bit_or n x) (g refl) ∙ none_set n
set_last n digit true f g =
    let e : n / 2 * 2 ^ 1 + n % 2 ≡ n = omega arith in
    let m : n % 2 < 2 = mod_below n 2 (omega arith) in
    let b : bit_or (n / 2 * 2 ^ 1 + n % 2) 1 ≡ bit_or (n / 2) 0 * 2 ^ 1 + bit_or (n % 2) 1 =
    or_block 1 (n / 2) 0 (n % 2) 1 m (omega arith) in
    let u = none_set (n / 2) in
    let v = last_set (n % 2) m in
    ap (λ (x : ℕ). bit_or n x) (f refl) ∙ ap (λ (x : ℕ). bit_or x 1) (sym e) ∙ b ∙ omega (arith, u, v, e)
