-- A number times a power of two, in quanta, from its significand; and clamped exponents.
use Rattle.std.proofs.Common.{◌≡◌, ℕ, ◌+◌, ◌*◌, ◌^◌, ◌<◌, ◌≤◌, ◌⊎◌, Bool, sym, refl, ap, ◌∙◌, subst, ⊎_elim, arith, ℤ}
use Rattle.std.proofs.Common.{pos, negsuc, neg_ℤ, ◌+ℤ◌, ◌-ℤ◌, ◌≤ℤ◌}
use Rattle.std.proofs.Math.Nat.{mul-le-mul_right, mul-le-mul_left, eq_of_mul-eq-mul_right, pow-le-pow_right}
use Rattle.std.proofs.Math.Nat.{mul-lt-mul_of_pos_right, mul-pos}
use Rattle.std.proofs.lemmas.{Nat.pow-add, Nat.pow_pos, Int.ints}
use Rattle.apfloat_model.specs.{declared.kinds.Round.Round, formats.Format.Format, formats.Datum.Datum}
use Rattle.apfloat_model.specs.rounding.{Standing.up, Standing.down, Rounding.IsDelivered}
use Rattle.apfloat_model.proofs.general.Powers.{pow3, two_pos}
use Rattle.apfloat_model.proofs.rounding.FarMagnitudes.{IsFarAbove, IsFarBelow, far_above, far_below}

-- two fractions are equal if their places have equal sums
pub scaled_stands : (s a di ui uj dj u d : ℕ) → a * 2 ^ di ≡ s * 2 ^ ui → ui + uj + d ≡ di + dj + u
    → a * 2 ^ uj * 2 ^ d ≡ s * (2 ^ dj * 2 ^ u)
scaled_stands s a di ui uj dj u d h e =
    let p : 2 ^ ui * 2 ^ uj * 2 ^ d ≡ 2 ^ di * 2 ^ dj * 2 ^ u = sym (pow3 ui uj d) ∙ ap (λ (x : ℕ). 2 ^ x) e ∙
    pow3 di dj u in
    let l₁ : a * 2 ^ uj * 2 ^ d * 2 ^ di ≡ a * 2 ^ di * (2 ^ uj * 2 ^ d) = omega arith in
    let l₂ : a * 2 ^ di * (2 ^ uj * 2 ^ d) ≡ s * 2 ^ ui * (2 ^ uj * 2 ^ d) = ap (λ (x : ℕ). x * (2 ^ uj * 2 ^ d)) h in
    let l₃ : s * 2 ^ ui * (2 ^ uj * 2 ^ d) ≡ s * (2 ^ ui * 2 ^ uj * 2 ^ d) = omega arith in
    let l₄ : s * (2 ^ ui * 2 ^ uj * 2 ^ d) ≡ s * (2 ^ di * 2 ^ dj * 2 ^ u) = ap (λ (x : ℕ). s * x) p in
    let l₅ : s * (2 ^ di * 2 ^ dj * 2 ^ u) ≡ s * (2 ^ dj * 2 ^ u) * 2 ^ di = omega arith in
    eq_of_mul-eq-mul_right (2 ^ di) (pow_pos di) (a * 2 ^ uj * 2 ^ d) (s * (2 ^ dj * 2 ^ u)) (l₁ ∙ l₂ ∙ l₃ ∙ l₄ ∙ l₅)

-- ---- by a power of two, in a format whose quantum is 2 to the power of minus `scale`

-- the places of a scaled number have equal sums on both sides
balanced_scaling : (digits scale : ℕ) (min_exp x j r : ℤ) → pos scale ≡ pos digits -ℤ min_exp
    → r ≡ ((x +ℤ j) -ℤ pos digits)
    → up (x -ℤ min_exp) + up j + down (r +ℤ pos scale) ≡ down (x -ℤ min_exp) + down j + up (r +ℤ pos scale)
balanced_scaling digits scale min_exp x j r k e = omega (arith, ints)

-- a number times a power of two, in quanta, from its significand and the exponent of its last digit
pub scaled_is : (digits scale : ℕ) (min_exp x j r : ℤ) (s a : ℕ) → pos scale ≡ pos digits -ℤ min_exp
    → r ≡ ((x +ℤ j) -ℤ pos digits) → a * 2 ^ down (x -ℤ min_exp) ≡ s * 2 ^ up (x -ℤ min_exp)
    → a * 2 ^ up j * 2 ^ down (r +ℤ pos scale) ≡ s * (2 ^ down j * 2 ^ up (r +ℤ pos scale))
scaled_is digits scale min_exp x j r s a k e h =
    scaled_stands s a (down (x -ℤ min_exp)) (up (x -ℤ min_exp)) (up j) (down j) (up (r +ℤ pos scale))
    (down (r +ℤ pos scale)) h (balanced_scaling digits scale min_exp x j r k e)

-- ---- from one format into another

-- the places of a converted number have equal sums on both sides
balanced_conversion : (digits scale digits' scale' : ℕ) (min min' x r : ℤ) → pos scale ≡ pos digits -ℤ min
    → pos scale' ≡ pos digits' -ℤ min' → r ≡ (x -ℤ pos digits)
    → up (x -ℤ min) + scale' + down (r +ℤ pos scale') ≡ down (x -ℤ min) + scale + up (r +ℤ pos scale')
balanced_conversion digits scale digits' scale' min min' x r k k' e = omega (arith, ints)

-- a number in quanta of another format, from its significand and the exponent of its last digit
pub converted_is : (digits scale digits' scale' : ℕ) (min min' x r : ℤ) (s a : ℕ) → pos scale ≡ pos digits -ℤ min
    → pos scale' ≡ pos digits' -ℤ min' → r ≡ (x -ℤ pos digits) → a * 2 ^ down (x -ℤ min) ≡ s * 2 ^ up (x -ℤ min)
    → a * 2 ^ scale' * 2 ^ down (r +ℤ pos scale') ≡ s * (2 ^ scale * 2 ^ up (r +ℤ pos scale'))
converted_is digits scale digits' scale' min min' x r s a k k' e h =
    scaled_stands s a (down (x -ℤ min)) (up (x -ℤ min)) scale' scale (up (r +ℤ pos scale')) (down (r +ℤ pos scale'))
    h (balanced_conversion digits scale digits' scale' min min' x r k k' e)

-- ---- amounts that the clamp changes

-- the clamped exponent is the given one, or both are beyond the bound on the same side
pub record IsClamped (bound : ℕ) (j near : ℤ) : Type 0 where
  pub low : neg_ℤ (pos bound) ≤ℤ near
  pub high : near ≤ℤ pos bound
  pub is : (near ≡ j) ⊎ (((near ≡ pos bound) × (pos bound ≤ℤ j))
      ⊎ ((near ≡ neg_ℤ (pos bound)) × (j ≤ℤ neg_ℤ (pos bound))))

-- a number of quanta has no more digits than its significand and its exponent allow
pub quanta_below : (precision : ℕ) (min_exp x : ℤ) (s a : ℕ) → s < 2 ^ precision
    → a * 2 ^ down (x -ℤ min_exp) ≡ s * 2 ^ up (x -ℤ min_exp) → a < 2 ^ (precision + up (x -ℤ min_exp))
quanta_below precision min_exp x s a f h =
    let b : s * 2 ^ up (x -ℤ min_exp) < 2 ^ precision * 2 ^ up (x -ℤ min_exp) =
    mul-lt-mul_of_pos_right f (pow_pos (up (x -ℤ min_exp))) in
    omega (arith, pow-add 2 precision (up (x -ℤ min_exp)), b, mul-le-mul_left a (pow_pos (down (x -ℤ min_exp))), h)

-- a number moved up by the bound is far above the format
far_up : (format : Format) (a bound u d : ℕ) → 0 < a → format.precision + format.span ≤ bound → bound ≤ u → d ≡ 0
    → IsFarAbove format (a * 2 ^ u) (2 ^ d)
far_up format a bound u d h l k z = record {
  some = pow_pos d;
  from =
      let g : format.precision + format.span ≤ u = omega arith in
      let e : 2 ^ d ≡ 1 = ap (λ (x : ℕ). 2 ^ x) z in
      rw e (omega (arith, pow-le-pow_right two_pos g, mul-le-mul_right (2 ^ u) h));
}

-- a number moved down by the bound is far below it
far_down : (a k bound u d : ℕ) → 0 < a → a < 2 ^ k → k + 1 ≤ bound → bound ≤ d → u ≡ 0 → IsFarBelow (a * 2 ^ u) (2 ^ d)
far_down a k bound u d h b l m z = record {
  some = mul-pos h (pow_pos u);
  to =
      let g : k + 1 ≤ d = omega arith in
      let e : 2 ^ u ≡ 1 = ap (λ (x : ℕ). 2 ^ x) z in
      rw e (omega (arith, pow-le-pow_right two_pos g, pow-add 2 k 1, b));
}

-- the positive part of an exponent is within its bound
pub up_le : (z : ℤ) (n : ℕ) → z ≤ℤ pos n → up z ≤ n
up_le (pos k) n h = let l : k ≤ n = omega (arith, ints) in l
up_le (negsuc k) n h = let l : 0 ≤ n = omega arith in l

-- an exponent at least the bound has a positive part at least the bound, and no negative part
pub up_far : (j : ℤ) (bound : ℕ) → pos bound ≤ℤ j → (bound ≤ up j) × (down j ≡ 0)
up_far (pos k) bound h = let l : bound ≤ k = omega (arith, ints) in (l, refl)
up_far (negsuc k) bound h = absurd (omega (arith, ints))

-- an exponent at most minus the bound has a negative part at least the bound, and no positive part
pub down_far : (j : ℤ) (bound : ℕ) → j ≤ℤ neg_ℤ (pos bound) → (bound ≤ down j) × (up j ≡ 0)
down_far (pos k) bound h =
    let l : bound ≤ 0 = omega (arith, ints) in
    let m : k ≡ 0 = omega (arith, ints) in
    (l, m)
down_far (negsuc k) bound h = let l : bound ≤ k + 1 = omega (arith, ints) in (omega (arith, l), refl)

-- clamping an exponent changes no result
pub clamp_kept : (format : Format) (mode : Round) (negative : Bool) (a k bound : ℕ) (j near : ℤ) (value : Datum)
    (status : ℕ) → 0 < format.precision → 0 < a → a < 2 ^ k → format.precision + format.span ≤ bound → k + 1 ≤ bound
    → IsClamped bound j near → IsDelivered format mode negative (a * 2 ^ up near) (2 ^ down near) value status
    → IsDelivered format mode negative (a * 2 ^ up j) (2 ^ down j) value status
clamp_kept format mode negative a k bound j near v s p h b l m c d =
    ⊎_elim
    (λ (e : near ≡ j). subst (λ (x : ℤ). IsDelivered format mode negative (a * 2 ^ up x) (2 ^ down x) v s) e d)
    (λ r.
    ⊎_elim
    (λ (e : (near ≡ pos bound) × (pos bound ≤ℤ j)).
    let u = up_far near bound (omega (arith, ints, e.0)) in
    let w = up_far j bound e.1 in
    far_above format mode negative (a * 2 ^ up near) (2 ^ down near) (a * 2 ^ up j) (2 ^ down j) v s p
    (far_up format a bound (up near) (down near) h l u.0 u.1) (far_up format a bound (up j) (down j) h l w.0 w.1) d)
    (λ (e : (near ≡ neg_ℤ (pos bound)) × (j ≤ℤ neg_ℤ (pos bound))).
    let u = down_far near bound (omega (arith, ints, e.0)) in
    let w = down_far j bound e.1 in
    far_below format mode negative (a * 2 ^ up near) (2 ^ down near) (a * 2 ^ up j) (2 ^ down j) v s p
    (far_down a k bound (up near) (down near) h b m u.0 u.1) (far_down a k bound (up j) (down j) h b m w.0 w.1)
    d)
    r)
    c.is
