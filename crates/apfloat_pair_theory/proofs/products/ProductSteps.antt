-- The steps of the product of two pairs, on finite data: each step is finite, and is a rounding of numbers.
use Rattle.std.proofs.Common.{◌≡◌, ℕ, ◌+◌, ◌-◌, ◌*◌, ◌^◌, ◌<◌, ◌≤◌, true, sym, ap, ◌∙◌, subst, ⊎_elim, arith}
use Rattle.std.proofs.Math.Nat.{mul-le-mul_right, mul-le-mul_left, le_of_mul-le-mul_right}
use Rattle.std.proofs.lemmas.{Nat.pow_pos, Bool.cases_lt}
use Rattle.std.specs.Prelude.{ℤ, ◌+ℤ◌, ◌-ℤ◌, ◌*ℤ◌}
use Rattle.apfloat_model.specs.{rounding.Negation.negated, order.Classes.is_finite, order.Order.number}
use Rattle.apfloat_model.specs.declared.kinds.Round.TheVariants.{NearestTiesToEven}
use Rattle.apfloat_model.specs.declared.kinds.NonfiniteBehavior.TheVariants.{IEEE754}
use Rattle.apfloat_model.specs.formats.{Format.Format, Format.largest, Datum.Datum}
use Rattle.apfloat_model.specs.arithmetic.{Exact.magnitude, Products.IsProduct, FusedSums.IsFusedSum}
use Rattle.apfloat_model.proofs.whole_numbers.SignedProducts.{magnitude-mul}
use Rattle.apfloat_pair_theory.proofs.numbers.{TwoSums.positive, Roundings.sum_within}
use Rattle.apfloat_pair_theory.proofs.numbers.Signed.{grown, magnitude_le, magnitude-sub}
use Rattle.apfloat_pair_theory.proofs.numbers.Nearest.{IsNearest, relative_error}
use Rattle.apfloat_pair_theory.proofs.numbers.WholeProducts.{IsWholeProduct, whole_size, product_within, two_product}
use Rattle.apfloat_pair_theory.proofs.numbers.FractionErrors.{IsCloseFraction, fraction_error, fraction_size}
use Rattle.apfloat_pair_theory.proofs.sums.SumSteps.{HasFlags, IsSumStep, size}

-- ---- the losses, as numbers

-- x is the exact product of the high parts and t the rounded one, both in quanta; ad and bc, the products of a high
-- part and a low one, are in parts of a quantum
pub record IsLostNumber (precision scale : ℕ) (x ad bc t tau : ℤ) : Type 0 where
  pub v : ℤ
  pub w : ℤ
  pub cross : ℤ
  pub v_close : IsCloseFraction precision (2 ^ scale) ad v
  pub w_close : IsCloseFraction precision (2 ^ scale) bc w
  pub cross_is : IsNearest precision (v +ℤ w) cross
  pub tau_is : IsNearest precision ((x -ℤ t) +ℤ cross) tau

-- ---- on data

-- the steps after t, the rounded product of the high parts a and c
pub record AreProductSteps (format : Format) (a b c d t lost v w cross tau : Datum) : Type 0 where
  pub is_lost : HasFlags (IsFusedSum format NearestTiesToEven a c (negated IEEE754 t) lost)
  pub is_v : HasFlags (IsProduct format NearestTiesToEven a d v)
  pub is_w : HasFlags (IsProduct format NearestTiesToEven b c w)
  pub is_cross : IsSumStep format v w cross
  pub is_tau : IsSumStep format lost cross tau

-- Finite parts (a, b) and (c, d). The product x of the high parts is within the format, and has 64 quanta or more;
-- the low parts are small relative to the high parts.
pub record AreFactors (format : Format) (x : ℤ) (a b c d : Datum) : Type 0 where
  pub finite_a : is_finite a ≡ true
  pub finite_b : is_finite b ≡ true
  pub finite_c : is_finite c ≡ true
  pub finite_d : is_finite d ≡ true
  pub whole : IsWholeProduct format.precision format.scale (number a) (number c) x
  pub within : magnitude x ≤ largest format
  pub some : 64 ≤ magnitude x
  pub low_first : 64 * size b ≤ size a
  pub low_second : 64 * size d ≤ size c

-- tau is finite, is the total of the losses, and is small relative to x
pub record IsLostDatum (format : Format) (x ad bc t : ℤ) (tau : Datum) : Type 0 where
  pub is_finite : is_finite tau ≡ true
  pub number_is : IsLostNumber format.precision format.scale x ad bc t (number tau)
  pub small : 8 * size tau ≤ magnitude x

-- ---- bounds, all against the product x of the high parts

-- if p is at least 64, a p-th is at most a 64th
sixty_fourth : (p e s : ℕ) → 64 ≤ p → p * e ≤ s → 64 * e ≤ s
sixty_fourth p e s w h = let b : 64 * e ≤ p * e = mul-le-mul_right e w in omega arith

-- with at least 6 digits, a rounding is off by at most a 64th
pub nearest_close : (precision : ℕ) (x z : ℤ) → 64 ≤ 2 ^ precision → IsNearest precision x z
    → 64 * magnitude (z -ℤ x) ≤ magnitude x
nearest_close precision x z wide n =
    sixty_fourth (2 ^ precision) (magnitude (z -ℤ x)) (magnitude x) wide
    (relative_error precision x z (positive precision (omega arith)) n)

-- if l is at most a 64th of x, its rounding is off by at most a 128th of x plus half a quantum
small_over : (p u l e x : ℕ) → 64 ≤ p → 2 * (p * e) ≤ 2 * l + p * u → 64 * l ≤ x → 128 * e ≤ x + 64 * u
small_over p u l e x w h k =
    ⊎_elim
    (λ (q : 2 * e < u). omega arith)
    (λ (q : u ≤ 2 * e).
    let a : 64 * (2 * e - u) ≤ p * (2 * e - u) = mul-le-mul_right (2 * e - u) w in
    let s : 2 * e ≡ (2 * e - u) + u = omega arith in
    let b : p * (2 * e) ≡ p * ((2 * e - u) + u) = ap (λ (i : ℕ). p * i) s in
    omega arith)
    (cases_lt (2 * e) u)

-- the rounded value of a product with a low part is small relative to x
cross_small : (p u l e x v : ℕ) → 64 ≤ p → 0 < u → 64 ≤ x → 2 * (p * e) ≤ 2 * l + p * u → 64 * l ≤ x * u → v * u ≤ l + e
    → 32 * v ≤ x
cross_small p u l e x v w h y i k j =
    let a : 128 * e ≤ x * u + 64 * u = small_over p u l e (x * u) w i k in
    let b : 64 * u ≤ x * u = mul-le-mul_right u y in
    let c : (32 * v) * u ≤ x * u = omega arith in
    le_of_mul-le-mul_right c h

-- the product of the first high part and the second low part is small relative to the whole product
product_le : (m n l x u L : ℕ) → 64 * l ≤ n → x * u ≡ m * n → x ≤ L → (64 * (m * l) ≤ x * u) × (m * l ≤ L * u)
product_le m n l x u L h e k =
    let a : m * (64 * l) ≤ m * n = mul-le-mul_left m h in
    let b : x * u ≤ L * u = mul-le-mul_right u k in
    (omega arith, omega arith)

-- the product of the first low part and the second high part is small relative to the whole product
product_le_first : (m n l x u L : ℕ) → 64 * l ≤ m → x * u ≡ m * n → x ≤ L → (64 * (l * n) ≤ x * u) × (l * n ≤ L * u)
product_le_first m n l x u L h e k =
    let a : (64 * l) * n ≤ m * n = mul-le-mul_right n h in
    let b : x * u ≤ L * u = mul-le-mul_right u k in
    (omega arith, omega arith)

-- bounds of the sum of the cross products, of its sum with the error of t, and of tau
cross_bound : (x v w s : ℕ) → 32 * v ≤ x → 32 * w ≤ x → s ≤ v + w → 16 * s ≤ x
cross_bound x v w s h k l = omega arith

rest_bound : (x e s i c q : ℕ) → 64 * e ≤ x → 16 * s ≤ x → 64 * i ≤ s → c ≤ s + i → q ≤ e + c → 12 * q ≤ x
rest_bound x e s i c q h₁ h₂ h₃ h₄ h₅ = omega arith

tau_bound : (x q j t : ℕ) → 12 * q ≤ x → 64 * j ≤ q → t ≤ q + j → 8 * t ≤ x
tau_bound x q j t h k l = omega arith

module _ (format : Format) (kind : format.nonfinite ≡ IEEE754) (wide : 64 ≤ 2 ^ format.precision) where
  -- the rounded product with a low part is finite and small
  cross_product : (x : ℤ) (first second value : Datum) (flags : ℕ) → is_finite first ≡ true
      → is_finite second ≡ true → 64 ≤ magnitude x → (64 * (size first * size second) ≤ magnitude x * 2 ^ format.scale)
      × (size first * size second ≤ largest format * 2 ^ format.scale)
      → IsProduct format NearestTiesToEven first second value flags → (is_finite value ≡ true)
      × IsCloseFraction format.precision (2 ^ format.scale) (number first *ℤ number second) (number value)
      × (32 * size value ≤ magnitude x)
  cross_product x a d v flags fa fd some b h =
      let m = magnitude-mul (number a) (number d) in
      let r = product_within format a d v flags kind fa fd (subst (λ (i : ℕ). i ≤ largest format * 2 ^ format.scale)
      (sym m) b.1) h in
      let c : IsCloseFraction format.precision (2 ^ format.scale) (number a *ℤ number d) (number v) =
      fraction_error format.precision (2 ^ format.scale) (number a *ℤ number d) (number v)
      (positive format.precision (omega arith)) (pow_pos format.scale) r.nearest in
      let l : 64 * magnitude (number a *ℤ number d) ≤ magnitude x * 2 ^ format.scale =
      subst (λ (i : ℕ). 64 * i ≤ magnitude x * 2 ^ format.scale) (sym m) b.0 in
      let g = fraction_size (2 ^ format.scale) (number a *ℤ number d) (number v) in (
        r.is_finite,
        c,
        cross_small (2 ^ format.precision) (2 ^ format.scale) _ _ (magnitude x) _ wide (pow_pos format.scale) some c l
            g,
      )

  -- each step after t is finite, and is a rounding of numbers
  pub lost_numbers : (x : ℤ) (a b c d t lost v w cross tau : Datum) → AreFactors format x a b c d → is_finite t ≡ true
      → IsNearest format.precision x (number t) → AreProductSteps format a b c d t lost v w cross tau
      → IsLostDatum format x (number a *ℤ number d) (number b *ℤ number c) (number t) tau
  lost_numbers x a b c d t lost v w cross tau g ft nt st =
      let r = two_product format a c t lost st.is_lost.0 x kind (omega arith) g.finite_a g.finite_c ft g.whole g.within
      nt st.is_lost.1 in
      let e = whole_size format.precision format.scale (number a) (number c) x g.whole in
      let pv = cross_product x a d v st.is_v.0 g.finite_a g.finite_d g.some
      (product_le (size a) (size c) (size d) (magnitude x) (2 ^ format.scale) (largest format) g.low_second e g.within)
      st.is_v.1 in
      let pw = cross_product x b c w st.is_w.0 g.finite_b g.finite_c g.some
      (product_le_first (size a) (size c) (size b) (magnitude x) (2 ^ format.scale)
      (largest format) g.low_first e g.within) st.is_w.1 in
      let within = g.within in
      let s₁ = cross_bound _ _ _ _ pv.2 pw.2 (magnitude_le (number v) (number w)) in
      let nc = sum_within format v w cross st.is_cross.0 kind pv.0 pw.0 (omega (arith, s₁, within)) st.is_cross.1 in
      let et = nearest_close format.precision x (number t) wide nt in
      let ml : magnitude (number t -ℤ x) ≡ size lost = magnitude-sub (number t) x ∙ ap magnitude (sym r.number_is) in
      let s₂ = rest_bound _ _ _ _ _ _ (subst (λ (i : ℕ). 64 * i ≤ magnitude x) ml et) s₁
      (nearest_close format.precision _ (number cross) wide nc.nearest)
      (grown (number v +ℤ number w) (number cross)) (magnitude_le (number lost) (number cross)) in
      let nu = sum_within format lost cross tau st.is_tau.0 kind r.is_finite nc.is_finite
      (omega (arith, s₂, within)) st.is_tau.1 in
      record {
        is_finite = nu.is_finite;
        number_is = record {
          v = number v;
          w = number w;
          cross = number cross;
          v_close = pv.1;
          w_close = pw.1;
          cross_is = nc.nearest;
          tau_is = subst (λ (i : ℤ). IsNearest format.precision (i +ℤ number cross) (number tau)) r.number_is
              nu.nearest;
        };
        small = tau_bound _ _ _ _ s₂ (nearest_close format.precision _ (number tau) wide nu.nearest)
            (grown (number lost +ℤ number cross) (number tau));
      }
