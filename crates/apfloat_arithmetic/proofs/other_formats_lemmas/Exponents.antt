-- Amounts and significands at exponents, counted from the places of an amount.
use Rattle.std.proofs.Common.{◌≡◌, ℕ, ◌+◌, ◌-◌, ◌*◌, ◌%◌, ◌^◌, ◌<◌, ◌≤◌, sym, ap}
use Rattle.std.proofs.Common.{◌∙◌, subst, arith, ℤ, pos, neg_ℤ, ◌+ℤ◌, ◌-ℤ◌}
use Rattle.std.proofs.Math.{Path.subst₂, Nat.eq_of_mul-eq-mul_right, Nat.mul-pos, Nat.mod-eq_of_lt}
use Rattle.std.proofs.lemmas.{Int.ints, Nat.pow_pos, Nat.pow-add}
use Rattle.apfloat_model.specs.declared.loss.Loss.{Loss}
use Rattle.apfloat_model.specs.rounding.{Standing.StandsFor, Standing.up, Standing.down, RoundingToOdd.IsRoundedToOdd}
use Rattle.apfloat_model.proofs.arithmetic.Fractions.{product_stands, quotient_carries}
use Rattle.apfloat_model.proofs.general.Powers.{pow3, left_factor}
use Rattle.apfloat_model.proofs.rounding.KeptDigits.{stands_cancel, stands_times, fits_shifted, full_shifted}
use Rattle.apfloat_model.proofs.rounding.OddRoundings.{to_odd_times, to_odd_cancel}
use Rattle.apfloat_words.specs.declared.terms.Term.{Term}
use Rattle.apfloat_rounding.specs.Stored.{IsQuantaAt}
use Rattle.apfloat_arithmetic.specs.other_formats.Operands.{IsAmount}

-- if two numbers are equal at some places, they are equal at further places that balance
pub same_places : (n s a b x j y : ℕ) → n * 2 ^ a ≡ s * 2 ^ b → b + x ≡ j + y + a → n * 2 ^ x ≡ s * 2 ^ j * 2 ^ y
same_places n s a b x j y e l =
    let p : 2 ^ b * 2 ^ x ≡ 2 ^ j * 2 ^ y * 2 ^ a = sym (pow-add 2 b x) ∙ ap (λ (z : ℕ). 2 ^ z) l ∙ pow3 j y a in
    let q : n * 2 ^ a * 2 ^ x ≡ s * 2 ^ b * 2 ^ x = ap (λ (z : ℕ). z * 2 ^ x) e in
    let r : s * (2 ^ b * 2 ^ x) ≡ s * (2 ^ j * 2 ^ y * 2 ^ a) = ap (λ (z : ℕ). s * z) p in
    eq_of_mul-eq-mul_right (2 ^ a) (pow_pos a) (n * 2 ^ x) (s * 2 ^ j * 2 ^ y) (omega arith)

-- a significand that is moved up by j places at a lower exponent is the same amount
pub moved_amount : (min x low e : ℤ) (j n s : ℕ) → IsQuantaAt min s x n → (e -ℤ low) +ℤ pos j ≡ x -ℤ min
    → IsQuantaAt low (s * 2 ^ j) e n
moved_amount min x low e j n s h v =
    same_places n s (down (x -ℤ min)) (up (x -ℤ min)) (down (e -ℤ low)) j (up (e -ℤ low)) h (omega (arith, ints))

-- the amount of a zero significand is 0
pub no_amount : (low e : ℤ) (n : ℕ) → IsQuantaAt low 0 e n → n ≡ 0
no_amount low e n h = eq_of_mul-eq-mul_right (2 ^ down (e -ℤ low)) (pow_pos (down (e -ℤ low))) n 0 (omega (arith, h))

-- the amount of another significand is above 0
pub some_amount : (low e : ℤ) (s n : ℕ) → 0 < s → IsQuantaAt low s e n → 0 < n
some_amount low e s n p h =
    let u : 0 < s * 2 ^ up (e -ℤ low) = mul-pos p (pow_pos (up (e -ℤ low))) in
    left_factor n (2 ^ down (e -ℤ low)) (omega (arith, h, u))

-- so are those of a term
pub no_term : (places n : ℕ) (x : Term) → x.significand ≡ 0 → IsAmount n places x → n ≡ 0
no_term places n x z h =
    no_amount (neg_ℤ (pos places)) x.exponent n (subst (λ (m : ℕ). IsQuantaAt (neg_ℤ (pos places)) m x.exponent n) z h)

pub some_term : (places n : ℕ) (x : Term) → (x.significand ≡ 0 → ⊥) → IsAmount n places x → 0 < n
some_term places n x p h = some_amount (neg_ℤ (pos places)) x.exponent x.significand n (omega (arith, p)) h

-- ---- 125 digits

pub raised_fits : (p m : ℕ) → p ≤ 125 → m < 2 ^ p → m * 2 ^ (125 - p) < 2 ^ 125
raised_fits p m h f = fits_shifted m p (125 - p) 125 f (omega arith)

pub raised_full : (p m : ℕ) → 0 < p → p ≤ 125 → 2 ^ (p - 1) ≤ m → 2 ^ 124 ≤ m * 2 ^ (125 - p)
raised_full p m q h f = full_shifted m p (125 - p) 125 q (λ k. f) (omega arith)

pub raised_word : (p m : ℕ) → p ≤ 125 → m < 2 ^ p → m * 2 ^ (125 - p) % 2 ^ 128 ≡ m * 2 ^ (125 - p)
raised_word p m h f = let b = raised_fits p m h f in mod-eq_of_lt (omega (arith, b))

-- ---- units

-- an amount rounded to odd at `places` is rounded to odd in quanta of the target
pub in_target : (least q amount places scale : ℕ) (e : ℤ)
    → IsRoundedToOdd least q (amount * 2 ^ down (e +ℤ pos places)) (1 * 2 ^ up (e +ℤ pos places))
    → IsRoundedToOdd least q (amount * 2 ^ scale * 2 ^ down (e +ℤ pos scale)) (2 ^ places * 2 ^ up (e +ℤ pos scale))
in_target least q amount places scale e h =
    let f = up (e +ℤ pos places) in
    let f' = down (e +ℤ pos places) in
    let u = up (e +ℤ pos scale) in
    let d = down (e +ℤ pos scale) in
    let v : f + scale + d ≡ places + u + f' = omega (arith, ints) in
    let p : 2 ^ f * 2 ^ scale * 2 ^ d ≡ 2 ^ places * 2 ^ u * 2 ^ f' = sym (pow3 f scale d) ∙
    ap (λ (z : ℕ). 2 ^ z) v ∙ pow3 places u f' in
    let t : IsRoundedToOdd least q (amount * 2 ^ f' * (2 ^ scale * 2 ^ d)) (1 * 2 ^ f * (2 ^ scale * 2 ^ d)) =
    to_odd_times least q (amount * 2 ^ f') (1 * 2 ^ f) (2 ^ scale * 2 ^ d) (mul-pos (pow_pos scale) (pow_pos d)) h in
    let a : amount * 2 ^ f' * (2 ^ scale * 2 ^ d) ≡ amount * 2 ^ scale * 2 ^ d * 2 ^ f' = omega arith in
    let b : 1 * 2 ^ f * (2 ^ scale * 2 ^ d) ≡ 2 ^ places * 2 ^ u * 2 ^ f' = omega arith in
    to_odd_cancel least q (amount * 2 ^ scale * 2 ^ d) (2 ^ places * 2 ^ u) (2 ^ f') (pow_pos f')
    (subst₂ (λ (x : ℕ) (y : ℕ). IsRoundedToOdd least q x y) a b t)

-- more places
pub more_places : (least q amount places more : ℕ) (e : ℤ)
    → IsRoundedToOdd least q (amount * 2 ^ down (e +ℤ pos places)) (1 * 2 ^ up (e +ℤ pos places))
    → IsRoundedToOdd least q (amount * 2 ^ more * 2 ^ down (e +ℤ pos (places + more)))
    (1 * 2 ^ up (e +ℤ pos (places + more)))
more_places least q amount places more e h =
    let f = up (e +ℤ pos places) in
    let f' = down (e +ℤ pos places) in
    let u = up (e +ℤ pos (places + more)) in
    let d = down (e +ℤ pos (places + more)) in
    let v : f + more + d ≡ u + f' = omega (arith, ints) in
    let p : 2 ^ f * 2 ^ more * 2 ^ d ≡ 2 ^ u * 2 ^ f' = sym (pow3 f more d) ∙ ap (λ (z : ℕ). 2 ^ z) v ∙
    pow-add 2 u f' in
    let t : IsRoundedToOdd least q (amount * 2 ^ f' * (2 ^ more * 2 ^ d)) (1 * 2 ^ f * (2 ^ more * 2 ^ d)) =
    to_odd_times least q (amount * 2 ^ f') (1 * 2 ^ f) (2 ^ more * 2 ^ d) (mul-pos (pow_pos more) (pow_pos d)) h in
    let a : amount * 2 ^ f' * (2 ^ more * 2 ^ d) ≡ amount * 2 ^ more * 2 ^ d * 2 ^ f' = omega arith in
    let b : 1 * 2 ^ f * (2 ^ more * 2 ^ d) ≡ 1 * 2 ^ u * 2 ^ f' = omega arith in
    to_odd_cancel least q (amount * 2 ^ more * 2 ^ d) (1 * 2 ^ u) (2 ^ f') (pow_pos f')
    (subst₂ (λ (x : ℕ) (y : ℕ). IsRoundedToOdd least q x y) a b t)

-- ---- products

-- the product of two significands, moved up, is the product of the amounts
pub product_amount : (x y e : ℤ) (moved s t p w r m n : ℕ) → IsQuantaAt (neg_ℤ (pos s)) p x m
    → IsQuantaAt (neg_ℤ (pos t)) w y n → r ≡ p * w * 2 ^ moved → e ≡ (x +ℤ y) -ℤ pos moved
    → IsQuantaAt (neg_ℤ (pos (s + t))) r e (m * n)
product_amount x y e moved s t p w r m n hx hy v l =
    let u = up (e -ℤ neg_ℤ (pos (s + t))) in
    let d = down (e -ℤ neg_ℤ (pos (s + t))) in
    let a : m * n * 2 ^ d ≡ p * w * (2 ^ moved * 2 ^ u) =
    product_stands p w m n (up (x -ℤ neg_ℤ (pos s))) (up (y -ℤ neg_ℤ (pos t))) (down (x -ℤ neg_ℤ (pos s)))
    (down (y -ℤ neg_ℤ (pos t))) moved u d hx hy (omega (arith, ints)) in
    let b : r * 2 ^ u ≡ p * w * 2 ^ moved * 2 ^ u = ap (λ (z : ℕ). z * 2 ^ u) v in
    omega arith

-- a product that was cut and rounded to odd
pub cut_product : (least cut s t : ℕ) (x y e : ℤ) (p w m n q : ℕ) → IsQuantaAt (neg_ℤ (pos s)) p x m
    → IsQuantaAt (neg_ℤ (pos t)) w y n → e ≡ (x +ℤ y) +ℤ pos cut → IsRoundedToOdd least q (p * w) (2 ^ cut)
    → IsRoundedToOdd least q (m * n * 2 ^ down (e +ℤ pos (s + t))) (1 * 2 ^ up (e +ℤ pos (s + t)))
cut_product least cut s t x y e p w m n q hx hy l h =
    let a = up (x -ℤ neg_ℤ (pos s)) in
    let a' = down (x -ℤ neg_ℤ (pos s)) in
    let b = up (y -ℤ neg_ℤ (pos t)) in
    let b' = down (y -ℤ neg_ℤ (pos t)) in
    let u = up (e +ℤ pos (s + t)) in
    let d = down (e +ℤ pos (s + t)) in
    let f = a + b + d in
    let v : cut + f ≡ u + (a' + b') = omega (arith, ints) in
    let g : 2 ^ cut * 2 ^ f ≡ 2 ^ u * 2 ^ (a' + b') = sym (pow-add 2 cut f) ∙ ap (λ (z : ℕ). 2 ^ z) v ∙
    pow-add 2 u (a' + b') in
    let i : 2 ^ f ≡ 2 ^ a * 2 ^ b * 2 ^ d = pow3 a b d in
    let j : 2 ^ (a' + b') ≡ 2 ^ a' * 2 ^ b' = pow-add 2 a' b' in
    let c : (m * 2 ^ a') * (n * 2 ^ b') * 2 ^ d ≡ (p * 2 ^ a) * (w * 2 ^ b) * 2 ^ d =
    ap (λ (z : ℕ). z * (n * 2 ^ b') * 2 ^ d) hx ∙ ap (λ (z : ℕ). (p * 2 ^ a) * z * 2 ^ d) hy in
    let c₁ : p * w * (2 ^ a * 2 ^ b * 2 ^ d) ≡ m * n * 2 ^ d * (2 ^ a' * 2 ^ b') = omega arith in
    let c₂ : p * w * 2 ^ f ≡ m * n * 2 ^ d * 2 ^ (a' + b') =
    ap (λ (z : ℕ). p * w * z) i ∙ c₁ ∙ sym (ap (λ (z : ℕ). m * n * 2 ^ d * z) j) in
    let k : 2 ^ cut * 2 ^ f ≡ 1 * 2 ^ u * 2 ^ (a' + b') = omega arith in
    to_odd_cancel least q (m * n * 2 ^ d) (1 * 2 ^ u) (2 ^ (a' + b')) (pow_pos (a' + b'))
    (subst₂ (λ (z : ℕ) (v : ℕ). IsRoundedToOdd least q z v) c₂ k
    (to_odd_times least q (p * w) (2 ^ cut) (2 ^ f) (pow_pos f) h))

-- ---- quotients

-- the quotient of two significands, with its loss, is that of the amounts in quanta of the target
pub quotient_amount : (places s t scale : ℕ) (x y e : ℤ) (q : ℕ) (loss : Loss) (p w m n : ℕ)
    → IsQuantaAt (neg_ℤ (pos s)) p x m → IsQuantaAt (neg_ℤ (pos t)) w y n → e ≡ (x -ℤ y) -ℤ pos places
    → StandsFor q loss (p * 2 ^ places) w
    → StandsFor q loss (m * 2 ^ (t + scale) * 2 ^ down (e +ℤ pos scale)) (n * 2 ^ s * 2 ^ up (e +ℤ pos scale))
quotient_amount places s t scale x y e q loss p w m n hx hy l h =
    let b = up (y -ℤ neg_ℤ (pos t)) in
    let b' = down (y -ℤ neg_ℤ (pos t)) in
    let j : 2 ^ (b + s) ≡ 2 ^ b * 2 ^ s = pow-add 2 b s in
    let i : w * 2 ^ (b + s) ≡ w * (2 ^ b * 2 ^ s) = ap (λ (z : ℕ). w * z) j in
    let k : n * 2 ^ b' * 2 ^ s ≡ w * 2 ^ b * 2 ^ s = ap (λ (z : ℕ). z * 2 ^ s) hy in
    let g : n * 2 ^ s * 2 ^ b' ≡ w * 2 ^ (b + s) = omega arith in
    quotient_carries (λ (a : ℕ) (u : ℕ). StandsFor q loss a u) p w m (n * 2 ^ s) places (up (x -ℤ neg_ℤ (pos s)))
    (b + s) (down (x -ℤ neg_ℤ (pos s))) b' (t + scale) (up (e +ℤ pos scale)) (down (e +ℤ pos scale))
    (λ a u w p k. stands_times q loss a u w p k) (λ a u w p k. stands_cancel q loss a u w p k) hx g
    (omega (arith, ints)) h
