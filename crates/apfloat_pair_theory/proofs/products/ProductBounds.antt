-- The error of a product of two normalized pairs, in terms of numbers.
use Rattle.std.proofs.Common.{◌≡◌, ℕ, ◌+◌, ◌*◌, ◌^◌, ◌≤◌, sym, ap, ◌∙◌, subst, arith}
use Rattle.std.proofs.{Math.Nat.mul-le-mul_right, Math.Nat.mul-le-mul_left, lemmas.Nat.mul-le, lemmas.Int.ints}
use Rattle.std.specs.Prelude.{ℤ, pos, ◌+ℤ◌, ◌-ℤ◌, ◌*ℤ◌}
use Rattle.apfloat_model.specs.arithmetic.Exact.{magnitude}
use Rattle.apfloat_model.proofs.arithmetic.Signs.{one_side}
use Rattle.apfloat_model.proofs.whole_numbers.SignedProducts.{sum_times, times_sum, difference_times, magnitude-mul}
use Rattle.apfloat_model.proofs.whole_numbers.SignedProducts.{magnitude-times}
use Rattle.apfloat_pair_theory.proofs.numbers.Signed.{magnitude-sub, magnitude_le, grown, first_most}
use Rattle.apfloat_pair_theory.proofs.numbers.Nearest.{IsNearest, relative_error}
use Rattle.apfloat_pair_theory.proofs.numbers.{TwoSums.positive, FractionErrors.fraction_size}
use Rattle.apfloat_pair_theory.proofs.{sums.PairRoundings.eighth, products.ProductSteps.IsLostNumber}

-- ---- the total of the losses of the steps, in parts of a quantum, as magnitudes

-- the parts of the error add up to at most 16 times X
total : (X pAD pBC ppBD AC ppev ppew pev pew ppu S pS a b c T : ℕ) → 8 * pAD ≤ 9 * X → 8 * pBC ≤ 9 * X → ppBD ≤ X
    → 64 * AC ≤ 81 * X → 2 * ppev ≤ 2 * pAD + ppu → 2 * ppew ≤ 2 * pBC + ppu → 8 * pev ≤ ppev → 8 * pew ≤ ppew
    → 8 * ppu ≤ X → pS ≡ pAD + pev + pBC + pew → 8 * S ≤ pS → a ≤ pS → b ≤ AC + pS + c → c ≤ S
    → T ≤ ppBD + ppev + ppew + a + b → T ≤ 16 * X
total X pAD pBC ppBD AC ppev ppew pev pew ppu S pS a b c T h1 h2 h3 h4 h5 h6 h7 h8 h9 h10 h11 h12 h13 h14 h15 =
    omega arith

-- p is 2 ^ digits, u the parts of a quantum; X and Y are the numbers of the pairs, A, B,
-- C, D those of their parts, and each e a loss
pub product_losses : (p u A B C D X Y ev ew V W evw VW T et E : ℕ) → 8 ≤ p → p * B ≤ X → p * D ≤ Y → A ≤ X + B
    → C ≤ Y + D → 2 * (p * ev) ≤ 2 * (A * D) + p * u → 2 * (p * ew) ≤ 2 * (B * C) + p * u → V * u ≤ A * D + ev
    → W * u ≤ B * C + ew → p * evw ≤ V + W → VW ≤ V + W + evw → p * (T * u) ≤ A * C → p * et ≤ T + VW
    → E ≤ B * D + ev + ew + u * evw + u * et → 8 * (p * (p * u)) ≤ X * Y → p * (p * E) ≤ 16 * (X * Y)
product_losses p u A B C D X Y ev ew V W evw VW T et E w hB hD hA hC h1 h2 h3 h4 h5 h6 h7 h8 h9 h0 =
    let b₈ : 8 * B ≤ X = eighth p B X w hB in
    let d₈ : 8 * D ≤ Y = eighth p D Y w hD in
    let by : (8 * B) * Y ≤ X * Y = mul-le-mul_right Y b₈ in
    let xd : X * (8 * D) ≤ X * Y = mul-le-mul_left X d₈ in
    let bd : (8 * B) * (8 * D) ≤ X * Y = mul-le (8 * B) (8 * D) X Y b₈ d₈ in
    let ad₁ : A * (p * D) ≤ (X + B) * Y = mul-le A (p * D) (X + B) Y hA hD in
    let bc₁ : (p * B) * C ≤ X * (Y + D) = mul-le (p * B) C X (Y + D) hB hC in
    let pp : (p * B) * (p * D) ≤ X * Y = mul-le (p * B) (p * D) X Y hB hD in
    let ac : A * C ≤ (X + B) * (Y + D) = mul-le A C (X + B) (Y + D) hA hC in
    let e₁ : p * (2 * (p * ev)) ≤ p * (2 * (A * D) + p * u) = mul-le-mul_left p h1 in
    let e₂ : p * (2 * (p * ew)) ≤ p * (2 * (B * C) + p * u) = mul-le-mul_left p h2 in
    let g₁ : 8 * (p * ev) ≤ p * (p * ev) = mul-le-mul_right (p * ev) w in
    let g₂ : 8 * (p * ew) ≤ p * (p * ew) = mul-le-mul_right (p * ew) w in
    let s₁ : u * (p * evw) ≤ u * (V + W) = mul-le-mul_left u h5 in
    let s₂ : u * (p * evw) ≤ A * D + ev + B * C + ew = omega (arith) in
    let s₃ : p * (u * (p * evw)) ≤ p * (A * D + ev + B * C + ew) = mul-le-mul_left p s₂ in
    let s₄ : 8 * (A * D + ev + B * C + ew) ≤ p * (A * D + ev + B * C + ew) =
    mul-le-mul_right (A * D + ev + B * C + ew) w in
    let t₁ : u * (p * et) ≤ u * (T + VW) = mul-le-mul_left u h8 in
    let t₂ : u * VW ≤ u * (V + W + evw) = mul-le-mul_left u h6 in
    let t₃ : u * (p * et) ≤ T * u + (A * D + ev + B * C + ew) + u * evw = omega (arith) in
    let t₄ : p * (u * (p * et)) ≤ p * (T * u + (A * D + ev + B * C + ew) + u * evw) = mul-le-mul_left p t₃ in
    let t₅ : p * (u * (p * et)) ≤ A * C + p * (A * D + ev + B * C + ew) + u * (p * evw) = omega (arith) in
    let f₁ : p * E ≤ p * (B * D + ev + ew + u * evw + u * et) = mul-le-mul_left p h9 in
    let f₂ : p * (p * E) ≤ p * (p * (B * D + ev + ew + u * evw + u * et)) = mul-le-mul_left p f₁ in
    total (X * Y) (p * (A * D)) (p * (B * C)) (p * (p * (B * D))) (A * C) (p * (p * ev)) (p * (p * ew)) (p * ev)
    (p * ew) (p * (p * u)) (A * D + ev + B * C + ew) (p * (A * D + ev + B * C + ew)) (p * (u * (p * evw)))
    (p * (u * (p * et))) (u * (p * evw)) (p * (p * E)) (omega arith) (omega arith) (omega arith) (omega arith)
    (omega arith) (omega arith) g₁ g₂ h0 (omega arith) s₄ s₃ t₅ s₂ (omega arith)

-- ---- the error of the result, from the losses of the steps

-- the magnitude of a sum of five numbers is at most the sum of their magnitudes
pub five_le : (a b c d e : ℤ)
    → magnitude ((((a +ℤ b) +ℤ c) +ℤ d) -ℤ e) ≤ magnitude e + magnitude c + magnitude d + magnitude b + magnitude a
five_le a b c d e =
    let s₄ : magnitude ((((a +ℤ b) +ℤ c) +ℤ d) -ℤ e) ≤ magnitude (((a +ℤ b) +ℤ c) +ℤ d) + magnitude e =
    omega (arith, ints, one_side e, one_side (((a +ℤ b) +ℤ c) +ℤ d), one_side ((((a +ℤ b) +ℤ c) +ℤ d) -ℤ e)) in
    omega (arith, magnitude_le a b, magnitude_le (a +ℤ b) c, magnitude_le ((a +ℤ b) +ℤ c) d, s₄)

-- the error of a product, as the sum of its parts
loss_is : (tu tauu xu crossu vu wu dtu dcu ac ad bc bd : ℤ) → tauu ≡ (dtu +ℤ ((xu -ℤ tu) +ℤ crossu))
    → crossu ≡ (dcu +ℤ (vu +ℤ wu)) → xu ≡ ac
    → ((tu +ℤ tauu) -ℤ ((ac +ℤ ad) +ℤ (bc +ℤ bd))) ≡ ((((dtu +ℤ dcu) +ℤ (vu -ℤ ad)) +ℤ (wu -ℤ bc)) -ℤ bd)
loss_is tu tauu xu crossu vu wu dtu dcu ac ad bc bd e f g = omega (arith, ints, e, f, g)

-- x and z - x add up to z
rest_is : (z x : ℤ) → z ≡ ((z -ℤ x) +ℤ x)
rest_is z x = omega (arith, ints)

-- multiples of x and of z - x add up to the multiple of z
rest_times : (z x u : ℤ) → (z *ℤ u) ≡ (((z -ℤ x) *ℤ u) +ℤ (x *ℤ u))
rest_times z x u = ap (λ (i : ℤ). i *ℤ u) (rest_is z x) ∙ sum_times (z -ℤ x) x u

-- the product of two sums is the sum of four products
four_products : (a b c d : ℤ) → ((a +ℤ b) *ℤ (c +ℤ d)) ≡ (((a *ℤ c) +ℤ (a *ℤ d)) +ℤ ((b *ℤ c) +ℤ (b *ℤ d)))
four_products a b c d =
    sum_times a b (c +ℤ d) ∙ ap (λ (i : ℤ). i +ℤ (b *ℤ (c +ℤ d))) (times_sum a c d) ∙
    ap (λ (i : ℤ). ((a *ℤ c) +ℤ (a *ℤ d)) +ℤ i) (times_sum b c d)

-- the magnitude of a multiple
scaled_magnitude : (z : ℤ) (u : ℕ) → magnitude (z *ℤ pos u) ≡ u * magnitude z
scaled_magnitude z u = magnitude-times z u ∙ omega arith

-- the distance of z quanta from exact / u quanta, in parts of which a quantum has u
abbrev distance : ℤ → ℕ → ℤ → ℕ
distance z u exact = magnitude ((z *ℤ pos u) -ℤ exact)

-- the error of the product is at most b * d, which is left out, and the losses of the steps
losses : (a b c d x t v w cross tau : ℤ) (u : ℕ) → (x *ℤ pos u) ≡ (a *ℤ c)
    → distance (t +ℤ tau) u ((a +ℤ b) *ℤ (c +ℤ d))
    ≤ magnitude (b *ℤ d) + distance v u (a *ℤ d) + distance w u (b *ℤ c) + u * magnitude (cross -ℤ (v +ℤ w))
    + u * magnitude (tau -ℤ ((x -ℤ t) +ℤ cross))
losses a b c d x t v w cross tau u e =
    let last = tau -ℤ ((x -ℤ t) +ℤ cross) in
    let crossed = cross -ℤ (v +ℤ w) in
    let e₁ : (tau *ℤ pos u) ≡ ((last *ℤ pos u) +ℤ (((x *ℤ pos u) -ℤ (t *ℤ pos u)) +ℤ (cross *ℤ pos u))) =
    rest_times tau ((x -ℤ t) +ℤ cross) (pos u) ∙ ap (λ (i : ℤ). (last *ℤ pos u) +ℤ i)
    (sum_times (x -ℤ t) cross (pos u) ∙ ap (λ (i : ℤ). i +ℤ (cross *ℤ pos u)) (difference_times x t (pos u))) in
    let e₂ : (cross *ℤ pos u) ≡ ((crossed *ℤ pos u) +ℤ ((v *ℤ pos u) +ℤ (w *ℤ pos u))) =
    rest_times cross (v +ℤ w) (pos u) ∙ ap (λ (i : ℤ). (crossed *ℤ pos u) +ℤ i) (sum_times v w (pos u)) in
    let e₃ = loss_is (t *ℤ pos u) (tau *ℤ pos u) (x *ℤ pos u) (cross *ℤ pos u) (v *ℤ pos u) (w *ℤ pos u)
    (last *ℤ pos u) (crossed *ℤ pos u) (a *ℤ c) (a *ℤ d) (b *ℤ c) (b *ℤ d) e₁ e₂ e in
    let e₄ : (((t +ℤ tau) *ℤ pos u) -ℤ ((a +ℤ b) *ℤ (c +ℤ d)))
    ≡ (((t *ℤ pos u) +ℤ (tau *ℤ pos u)) -ℤ (((a *ℤ c) +ℤ (a *ℤ d)) +ℤ ((b *ℤ c) +ℤ (b *ℤ d)))) =
    ap (λ (i : ℤ). i -ℤ ((a +ℤ b) *ℤ (c +ℤ d))) (sum_times t tau (pos u)) ∙
    ap (λ (i : ℤ). ((t *ℤ pos u) +ℤ (tau *ℤ pos u)) -ℤ i) (four_products a b c d) in
    let s = five_le (last *ℤ pos u) (crossed *ℤ pos u) ((v *ℤ pos u) -ℤ (a *ℤ d)) ((w *ℤ pos u) -ℤ (b *ℤ c)) (b *ℤ d) in
    let m₂ = scaled_magnitude crossed u in
    let r = subst (λ (i : ℤ). magnitude i ≤ magnitude (b *ℤ d) + distance v u (a *ℤ d) + distance w u (b *ℤ c)
    + magnitude (crossed *ℤ pos u) + magnitude (last *ℤ pos u)) (sym (e₄ ∙ e₃)) s in
    subst (λ (i : ℕ). distance (t +ℤ tau) u ((a +ℤ b) *ℤ (c +ℤ d))
    ≤ magnitude (b *ℤ d) + distance v u (a *ℤ d) + distance w u (b *ℤ c) + u * magnitude crossed + i)
    (scaled_magnitude last u) (subst (λ (i : ℕ). distance (t +ℤ tau) u ((a +ℤ b) *ℤ (c +ℤ d))
    ≤ magnitude (b *ℤ d) + distance v u (a *ℤ d) + distance w u (b *ℤ c) + i + magnitude (last *ℤ pos u)) m₂ r)

-- a bound relative to x quanta, in parts of which a quantum has u
times_first : (p e x u m : ℕ) → p * e ≤ x → x * u ≡ m → p * (e * u) ≤ m
times_first p e x u m h k = let b : p * e * u ≤ x * u = h' in omega arith where
  h' : p * e * u ≤ x * u
  h' = omega (arith, mul-le-mul_right u h)

-- the error of a product is at most 16 / 2 ^ (2 * digits) of the exact product
pub product_bound : (precision scale : ℕ) (a b c d x t tau : ℤ) → 8 ≤ 2 ^ precision
    → 2 ^ precision * magnitude b ≤ magnitude (a +ℤ b) → 2 ^ precision * magnitude d ≤ magnitude (c +ℤ d)
    → (x *ℤ pos (2 ^ scale)) ≡ (a *ℤ c) → IsNearest precision x t
    → IsLostNumber precision scale x (a *ℤ d) (b *ℤ c) t tau
    → 8 * (2 ^ precision * (2 ^ precision * 2 ^ scale)) ≤ magnitude (a +ℤ b) * magnitude (c +ℤ d)
    → 2 ^ precision * (2 ^ precision * magnitude (((t +ℤ tau) *ℤ pos (2 ^ scale)) -ℤ ((a +ℤ b) *ℤ (c +ℤ d))))
    ≤ 16 * (magnitude (a +ℤ b) * magnitude (c +ℤ d))
product_bound precision scale a b c d x t tau wide hb hd e nt l big =
    let p = positive precision wide in
    let ad = magnitude-mul a d in
    let bc = magnitude-mul b c in
    let bd = magnitude-mul b d in
    let v_lost : ℕ = distance l.v (2 ^ scale) (a *ℤ d) in
    let w_lost : ℕ = distance l.w (2 ^ scale) (b *ℤ c) in
    let h₁ : 2 * (2 ^ precision * v_lost) ≤ 2 * (magnitude a * magnitude d) + 2 ^ precision * 2 ^ scale =
    subst (λ (i : ℕ). 2 * (2 ^ precision * v_lost) ≤ 2 * i + 2 ^ precision * 2 ^ scale) ad l.v_close in
    let h₂ : 2 * (2 ^ precision * w_lost) ≤ 2 * (magnitude b * magnitude c) + 2 ^ precision * 2 ^ scale =
    subst (λ (i : ℕ). 2 * (2 ^ precision * w_lost) ≤ 2 * i + 2 ^ precision * 2 ^ scale) bc l.w_close in
    let h₃ : magnitude l.v * 2 ^ scale ≤ magnitude a * magnitude d + v_lost =
    subst (λ (i : ℕ). magnitude l.v * 2 ^ scale ≤ i + v_lost) ad (fraction_size (2 ^ scale) (a *ℤ d) l.v) in
    let h₄ : magnitude l.w * 2 ^ scale ≤ magnitude b * magnitude c + w_lost =
    subst (λ (i : ℕ). magnitude l.w * 2 ^ scale ≤ i + w_lost) bc (fraction_size (2 ^ scale) (b *ℤ c) l.w) in
    let vw = magnitude_le l.v l.w in
    let r₅ = relative_error precision (l.v +ℤ l.w) l.cross p l.cross_is in
    let h₅ : 2 ^ precision * magnitude (l.cross -ℤ (l.v +ℤ l.w)) ≤ magnitude l.v + magnitude l.w =
    omega (arith, r₅, vw) in
    let g₆ = grown (l.v +ℤ l.w) l.cross in
    let h₆ : magnitude l.cross ≤ magnitude l.v + magnitude l.w + magnitude (l.cross -ℤ (l.v +ℤ l.w)) =
    omega (arith, g₆, vw) in
    let r₇ = relative_error precision x t p nt in
    let xu : magnitude x * 2 ^ scale ≡ magnitude a * magnitude c =
    sym (magnitude-mul x (pos (2 ^ scale)) ∙ ap (λ (i : ℕ). magnitude x * i) (size_of (2 ^ scale))) ∙ ap magnitude e ∙
    magnitude-mul a c in
    let ms : magnitude (t -ℤ x) ≡ magnitude (x -ℤ t) = magnitude-sub t x in
    let h₇ : 2 ^ precision * (magnitude (t -ℤ x) * 2 ^ scale) ≤ magnitude a * magnitude c =
    times_first (2 ^ precision) (magnitude (t -ℤ x)) (magnitude x) (2 ^ scale) (magnitude a * magnitude c) r₇ xu in
    let r₈ = relative_error precision ((x -ℤ t) +ℤ l.cross) tau p l.tau_is in
    let q₈ = magnitude_le (x -ℤ t) l.cross in
    let h₈ : 2 ^ precision * magnitude (tau -ℤ ((x -ℤ t) +ℤ l.cross)) ≤ magnitude (t -ℤ x) + magnitude l.cross =
    omega (arith, r₈, q₈, ms) in
    let cross_lost : ℕ = magnitude (l.cross -ℤ (l.v +ℤ l.w)) in
    let tau_lost : ℕ = magnitude (tau -ℤ ((x -ℤ t) +ℤ l.cross)) in
    let lost : ℕ = distance (t +ℤ tau) (2 ^ scale) ((a +ℤ b) *ℤ (c +ℤ d)) in
    let h₉ : lost ≤ magnitude b * magnitude d + v_lost + w_lost + 2 ^ scale * cross_lost + 2 ^ scale * tau_lost =
    subst (λ (i : ℕ). lost ≤ i + v_lost + w_lost + 2 ^ scale * cross_lost + 2 ^ scale * tau_lost) bd
    (losses a b c d x t l.v l.w l.cross tau (2 ^ scale) e) in
    product_losses (2 ^ precision) (2 ^ scale) (magnitude a) (magnitude b) (magnitude c) (magnitude d)
    (magnitude (a +ℤ b)) (magnitude (c +ℤ d)) v_lost w_lost (magnitude l.v) (magnitude l.w) cross_lost
    (magnitude l.cross) (magnitude (t -ℤ x)) tau_lost lost
    wide hb hd (first_most a b) (first_most c d) h₁ h₂ h₃ h₄ h₅ h₆ h₇ h₈ h₉ big where
      size_of : (n : ℕ) → magnitude (pos n) ≡ n
      size_of n = omega arith
