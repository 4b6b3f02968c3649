-- The signs of sums and differences of magnitudes, and their exponents.
use Rattle.std.proofs.Common.{◌≡◌, ℕ, ℤ, pos, negsuc, ◌+ℤ◌, ◌-ℤ◌, ◌≤ℤ◌, ◌+◌, ◌*◌}
use Rattle.std.proofs.Common.{◌^◌, Bool, true, false, cond, refl, ap, ◌∙◌, arith}
use Rattle.std.proofs.lemmas.{Nat.pow-add, Int.ints}
use Rattle.apfloat_model.specs.arithmetic.Exact.{up, down, signed}
use Rattle.apfloat_words.specs.Totals.{Balances}

-- ---- signs

-- magnitudes of one sign are added
pub like_signs : (negative : Bool) (a b : ℕ) → signed negative (a + b) ≡ (signed negative a +ℤ signed negative b)
like_signs true a b = omega (arith, ints)
like_signs false a b = omega (arith, ints)

-- magnitudes of opposite signs are subtracted; the difference has the sign of the greater
pub unlike_signs : (left right flipped : Bool) (a b n : ℕ) → (left ≡ right → ⊥) → Balances flipped n a b
    → signed (cond flipped right left) n ≡ (signed left a +ℤ signed right b)
unlike_signs true true flipped a b n d h = absurd (d refl)
unlike_signs false false flipped a b n d h = absurd (d refl)
unlike_signs true false true a b n d h = omega (arith, ints, h)
unlike_signs true false false a b n d h = omega (arith, ints, h)
unlike_signs false true true a b n d h = omega (arith, ints, h)
unlike_signs false true false a b n d h = omega (arith, ints, h)

-- ---- exponents

-- a nonnegative integer has no negative part
pub no_down : (z : ℤ) → pos 0 ≤ℤ z → down z ≡ 0
no_down (pos n) h = refl
no_down (negsuc n) h = absurd (omega (arith, ints))

-- raising the exponent by k multiplies the number of units by 2 ^ k
pub raised : (base e h : ℤ) (k : ℕ) → base ≤ℤ e → (e +ℤ pos k) ≡ h
    → (base ≤ℤ h) × (2 ^ up (h -ℤ base) ≡ 2 ^ k * 2 ^ up (e -ℤ base))
raised base e h k l q =
    let g : base ≤ℤ h = omega (arith, ints) in
    let a : down (h -ℤ base) ≡ 0 = no_down (h -ℤ base) (omega (arith, ints)) in
    let b : down (e -ℤ base) ≡ 0 = no_down (e -ℤ base) (omega (arith, ints)) in
    let d : up (h -ℤ base) ≡ k + up (e -ℤ base) = omega (arith, ints) in
    (g, ap (λ (x : ℕ). 2 ^ x) d ∙ pow-add 2 k (up (e -ℤ base)))

-- ---- balances

-- a balance holds in smaller units too
pub balances_times : (flipped : Bool) (n a b w : ℕ) → Balances flipped n a b → Balances flipped (n * w) (a * w) (b * w)
balances_times true n a b w h = ap (λ (x : ℕ). x * w) h ∙ omega arith
balances_times false n a b w h = ap (λ (x : ℕ). x * w) h ∙ omega arith
