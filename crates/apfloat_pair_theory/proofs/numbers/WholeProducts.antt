-- Products that are an integral number of quanta: the rounded product, and its exact error by a fused multiply-add.
use Rattle.std.proofs.Common.{◌≡◌, ℕ, ◌+◌, ◌-◌, ◌*◌, ◌^◌, ◌<◌, ◌≤◌, true, false, refl, sym, ap, ◌∙◌, subst, arith}
use Rattle.std.proofs.Math.Nat.{mul-le-mul_right, lt_of_mul-lt-mul_left, mul-lt-mul_of_pos_right}
use Rattle.std.proofs.lemmas.{Nat.pow-add, Nat.pow_pos, Nat.mul-lt, Bool.false≢true, Int.ints}
use Rattle.std.specs.Prelude.{ℤ, pos, neg_ℤ, ◌+ℤ◌, ◌-ℤ◌, ◌*ℤ◌}
use Rattle.apfloat_model.specs.{declared.kinds.NonfiniteBehavior.TheVariants.IEEE754, formats.Format.Format}
use Rattle.apfloat_model.specs.declared.kinds.Round.TheVariants.{NearestTiesToEven}
use Rattle.apfloat_model.specs.formats.{Format.largest, Datum.Datum, Datum.finite, Datum.infinite, Datum.nan}
use Rattle.apfloat_model.specs.rounding.{Grid.IsOnGrid, Negation.negated}
use Rattle.apfloat_model.specs.order.{Classes.is_finite, Order.number}
use Rattle.apfloat_model.specs.arithmetic.{Sums.zero_sum_sign, Products.IsProduct, FusedSums.IsFusedSum}
use Rattle.apfloat_model.specs.arithmetic.Exact.{magnitude, signed, sign_of, product_sign}
use Rattle.apfloat_model.proofs.arithmetic.Signs.{magnitude_signed}
use Rattle.apfloat_model.proofs.whole_numbers.SignedProducts.{difference_times, neg_times, magnitude-mul}
use Rattle.apfloat_model.proofs.whole_numbers.SignedProducts.{magnitude-times, signed_product, signed_times}
use Rattle.apfloat_pair_theory.proofs.{numbers.Roundings.negated_number, sums.PairRoundings.error_eighth}
use Rattle.apfloat_pair_theory.proofs.numbers.Signed.{magnitude-sub, IsMultiple, IsGridNumber, on_grid_as}
use Rattle.apfloat_pair_theory.proofs.numbers.Nearest.{IsNearest, nearest_exact, relative_error, error_at}
use Rattle.apfloat_pair_theory.proofs.numbers.TwoSums.{positive}
use Rattle.apfloat_pair_theory.proofs.numbers.Roundings.{signed_exact, IsRoundedTo, IsFractionRoundedTo, whole_rounded}
use Rattle.apfloat_pair_theory.proofs.numbers.Roundings.{fraction_delivered, fraction_within, negated_finite}

-- ---- products and fused sums of finite data, in parts of a quantum

-- a product within the largest value is finite, and the nearest number
pub product_within : (format : Format) (x y value : Datum) (status : ℕ) → format.nonfinite ≡ IEEE754
    → is_finite x ≡ true → is_finite y ≡ true → magnitude (number x *ℤ number y) ≤ largest format * 2 ^ format.scale
    → IsProduct format NearestTiesToEven x y value status
    → IsFractionRoundedTo format.precision (2 ^ format.scale) (number x *ℤ number y) value
product_within format (finite b m) (finite c n) value status k p q h s =
    let e : signed (product_sign b c) (m * n) ≡ (signed b m *ℤ signed c n) = signed_product b c m n in
    let a : magnitude (signed b m *ℤ signed c n) ≡ m * n =
    ap magnitude (sym e) ∙ magnitude_signed (product_sign b c) (m * n) in
    fraction_delivered format (product_sign b c) (m * n) (2 ^ format.scale) (signed b m *ℤ signed c n) value status k
    (pow_pos format.scale) (subst (λ (i : ℕ). i ≤ largest format * 2 ^ format.scale) a h) e s
product_within format (finite b m) (infinite c) value status k p q h s = absurd (false≢true q)
product_within format (finite b m) (nan c n) value status k p q h s = absurd (false≢true q)
product_within format (infinite b) y value status k p q h s = absurd (false≢true p)
product_within format (nan b m) y value status k p q h s = absurd (false≢true p)

abbrev pub fused_sum : Format → Datum → Datum → Datum → ℤ
fused_sum f x y z = (number x *ℤ number y) +ℤ (number z *ℤ pos (2 ^ f.scale))

-- a fused sum within the largest value is rounded to the nearest
pub fused_within : (format : Format) (x y z value : Datum) (status : ℕ) → format.nonfinite ≡ IEEE754
    → is_finite x ≡ true
    → is_finite y ≡ true → is_finite z ≡ true → magnitude (fused_sum format x y z) ≤ largest format * 2 ^ format.scale
    → IsFusedSum format NearestTiesToEven x y z value status
    → IsFractionRoundedTo format.precision (2 ^ format.scale) (fused_sum format x y z) value
fused_within format (finite b l) (finite c m) (finite d n) value status k p q r h s =
    let e₁ : signed (product_sign b c) (l * m) ≡ (signed b l *ℤ signed c m) = signed_product b c l m in
    let e : (signed (product_sign b c) (l * m) +ℤ signed d (n * 2 ^ format.scale))
    ≡ ((signed b l *ℤ signed c m) +ℤ (signed d n *ℤ pos (2 ^ format.scale))) =
    ap (λ (i : ℤ). i +ℤ signed d (n * 2 ^ format.scale)) e₁
    ∙ ap (λ (i : ℤ). (signed b l *ℤ signed c m) +ℤ i) (signed_times d n (2 ^ format.scale)) in
    subst (λ (i : ℤ). IsFractionRoundedTo format.precision (2 ^ format.scale) i value) e
    (fraction_within format (zero_sum_sign NearestTiesToEven (product_sign b c) d)
    (signed (product_sign b c) (l * m) +ℤ signed d (n * 2 ^ format.scale)) (2 ^ format.scale)
    value status k (pow_pos format.scale)
    (subst (λ (i : ℤ). magnitude i ≤ largest format * 2 ^ format.scale) (sym e) h) s)
fused_within format (finite b l) (finite c m) (infinite d) value status k p q r h s = absurd (false≢true r)
fused_within format (finite b l) (finite c m) (nan d n) value status k p q r h s = absurd (false≢true r)
fused_within format (finite b l) (infinite c) z value status k p q r h s = absurd (false≢true q)
fused_within format (finite b l) (nan c m) z value status k p q r h s = absurd (false≢true q)
fused_within format (infinite b) y z value status k p q r h s = absurd (false≢true p)
fused_within format (nan b l) y z value status k p q r h s = absurd (false≢true p)

-- ---- the exact product of two grid numbers

-- x quanta are the exact product of a and c, and have at most twice the digits of a grid number
pub record IsWholeProduct (precision scale : ℕ) (a c x : ℤ) : Type 0 where
  pub is : (x *ℤ pos (2 ^ scale)) ≡ (a *ℤ c)
  pub place : ℕ
  pub multiple : IsMultiple (2 ^ place) (magnitude x)
  pub bound : magnitude x < 2 ^ precision * (2 ^ precision * 2 ^ place)

-- the magnitude of the whole product is the product of the magnitudes
pub whole_size : (precision scale : ℕ) (a c x : ℤ) → IsWholeProduct precision scale a c x
    → magnitude x * 2 ^ scale ≡ magnitude a * magnitude c
whole_size precision scale a c x w = sym (magnitude-times x (2 ^ scale)) ∙ ap magnitude w.is ∙ magnitude-mul a c

-- x quanta are the exact product of two magnitudes
record IsWholeSize (precision scale m n x : ℕ) : Type 0 where
  is : x * 2 ^ scale ≡ m * n
  place : ℕ
  multiple : IsMultiple (2 ^ place) x
  bound : x < 2 ^ precision * (2 ^ precision * 2 ^ place)

-- the exact product of two grid numbers of quanta, if its lowest digits are not below the quantum
size_of_product : (precision scale m n : ℕ) (m_grid : IsOnGrid precision m) (n_grid : IsOnGrid precision n)
    → scale ≤ m_grid.place + n_grid.place → (x : ℕ) × IsWholeSize precision scale m n x
size_of_product precision scale m n m_grid n_grid l =
    let a : m ≡ m_grid.significand * 2 ^ m_grid.place = m_grid.is in
    let b : n ≡ n_grid.significand * 2 ^ n_grid.place = n_grid.is in
    let e₁ : m * n ≡ (m_grid.significand * 2 ^ m_grid.place) * (n_grid.significand * 2 ^ n_grid.place) =
    ap (λ (i : ℕ). i * n) a ∙ ap (λ (i : ℕ). (m_grid.significand * 2 ^ m_grid.place) * i) b in
    let e₂ : 2 ^ (m_grid.place + n_grid.place) ≡ 2 ^ m_grid.place * 2 ^ n_grid.place =
    pow-add 2 m_grid.place n_grid.place in
    let q : m_grid.place + n_grid.place ≡ (m_grid.place + n_grid.place - scale) + scale = omega arith in
    let e₃ : 2 ^ (m_grid.place + n_grid.place) ≡ 2 ^ (m_grid.place + n_grid.place - scale) * 2 ^ scale =
    ap (λ (i : ℕ). 2 ^ i) q ∙ pow-add 2 (m_grid.place + n_grid.place - scale) scale in
    let e₄ : (m_grid.significand * n_grid.significand) * (2 ^ m_grid.place * 2 ^ n_grid.place)
    ≡ (m_grid.significand * n_grid.significand) * (2 ^ (m_grid.place + n_grid.place - scale) * 2 ^ scale) =
    ap (λ (i : ℕ). (m_grid.significand * n_grid.significand) * i) (sym e₂ ∙ e₃) in
    let f : m_grid.significand * n_grid.significand < 2 ^ precision * 2 ^ precision =
    mul-lt m_grid.significand n_grid.significand (2 ^ precision) (2 ^ precision) m_grid.fits n_grid.fits in
    let f' : (m_grid.significand * n_grid.significand) * 2 ^
    (m_grid.place + n_grid.place - scale) < (2 ^ precision * 2 ^ precision) * 2 ^
    (m_grid.place + n_grid.place - scale) =
    mul-lt-mul_of_pos_right f (pow_pos (m_grid.place + n_grid.place - scale)) in (
      (m_grid.significand * n_grid.significand) * 2 ^ (m_grid.place + n_grid.place - scale),
      record {
        is = omega arith;
        place = m_grid.place + n_grid.place - scale;
        multiple = record { times = m_grid.significand * n_grid.significand; is = refl };
        bound = omega arith;
      },
    )

-- if the lowest digits of the product are not below the quantum, it is an integral number of quanta
pub whole_product : (precision scale : ℕ) (a c : ℤ) (a_grid : IsGridNumber precision a)
    (c_grid : IsGridNumber precision c) → scale ≤ a_grid.place + c_grid.place
    → (x : ℤ) × IsWholeProduct precision scale a c x
whole_product precision scale a c a_grid c_grid l =
    let w = size_of_product precision scale (magnitude a) (magnitude c) a_grid c_grid l in
    let s = sign_of false (a *ℤ c) in
    let m : magnitude (signed (sign_of false (a *ℤ c)) w.0) ≡ w.0 = magnitude_signed (sign_of false (a *ℤ c)) w.0 in
    let e : (signed (sign_of false (a *ℤ c)) w.0 *ℤ pos (2 ^ scale)) ≡ (a *ℤ c) =
    sym (signed_times (sign_of false (a *ℤ c)) w.0 (2 ^ scale)) ∙
    ap (signed (sign_of false (a *ℤ c))) (w.1.is ∙ sym (magnitude-mul a c)) ∙ signed_exact false (a *ℤ c) in (
      signed (sign_of false (a *ℤ c)) w.0,
      record {
        is = e;
        place = w.1.place;
        multiple = subst (λ (i : ℕ). IsMultiple (2 ^ w.1.place) i) (sym m) w.1.multiple;
        bound = subst (λ (i : ℕ). i < 2 ^ precision * (2 ^ precision * 2 ^ w.1.place)) (sym m) w.1.bound;
      },
    )

-- ---- the rounded product of whole quanta, and its error

-- the error of rounding a number of twice as many digits is on the grid
pub product_error_on_grid : (precision : ℕ) → 8 ≤ 2 ^ precision → (scale : ℕ) (a c x t : ℤ)
    → IsWholeProduct precision scale a c x → IsNearest precision x t → IsGridNumber precision (t -ℤ x)
product_error_on_grid precision wide scale a c x t w k =
    let l : 2 ^ precision * magnitude (t -ℤ x) < 2 ^ precision * (2 ^ precision * 2 ^ w.place) =
    omega (arith, relative_error precision x t (positive precision wide) k, w.bound) in
    error_at precision wide w.place x t w.multiple k (lt_of_mul-lt-mul_left (2 ^ precision) l)

-- in parts of a quantum, the error of the product is a fused sum with the negation of t
rest_times : (x t m u a c : ℤ) → m ≡ neg_ℤ t → (x *ℤ u) ≡ (a *ℤ c) → ((x -ℤ t) *ℤ u) ≡ ((a *ℤ c) +ℤ (m *ℤ u))
rest_times x t m u a c e w =
    let n : (m *ℤ u) ≡ neg_ℤ (t *ℤ u) = ap (λ (i : ℤ). i *ℤ u) e ∙ neg_times t u in
    difference_times x t u ∙ ap (λ (i : ℤ). i -ℤ (t *ℤ u)) w ∙ minus_is (a *ℤ c) (t *ℤ u) (m *ℤ u) n where
      minus_is : (p q r : ℤ) → r ≡ neg_ℤ q → (p -ℤ q) ≡ (p +ℤ r)
      minus_is p q r h = omega (arith, ints, h)

-- t, the rounded product, as a rounding of whole quanta
pub high_rounded : (format : Format) (first second product : Datum) (flags : ℕ) (x : ℤ) → format.nonfinite ≡ IEEE754
    → is_finite first ≡ true → is_finite second ≡ true
    → IsWholeProduct format.precision format.scale (number first) (number second) x → magnitude x ≤ largest format
    → IsProduct format NearestTiesToEven first second product flags → IsRoundedTo format.precision x product
high_rounded format a c t flags x k fa fc w l h =
    let b : magnitude (number a *ℤ number c) ≤ largest format * 2 ^ format.scale =
    subst (λ (i : ℕ). i ≤ largest format * 2 ^ format.scale)
    (sym (ap magnitude (sym w.is) ∙ magnitude-times x (2 ^ format.scale))) (mul-le-mul_right (2 ^ format.scale) l) in
    whole_rounded format.precision (2 ^ format.scale) (number a *ℤ number c) x t (pow_pos format.scale) w.is
    (product_within format a c t flags k fa fc b h)

-- a finite datum with that number
pub record IsWholeNumberAt (exact : ℤ) (value : Datum) : Type 0 where
  pub is_finite : is_finite value ≡ true
  pub number_is : number value ≡ exact

-- TwoProduct with a fused multiply-add: a * c - t, rounded once, is the exact error of the rounded product t
pub two_product : (format : Format) (first second product rest : Datum) (flags : ℕ) (x : ℤ)
    → format.nonfinite ≡ IEEE754 → 8 ≤ 2 ^ format.precision → is_finite first ≡ true → is_finite second ≡ true
    → is_finite product ≡ true → IsWholeProduct format.precision format.scale (number first) (number second) x
    → magnitude x ≤ largest format → IsNearest format.precision x (number product)
    → IsFusedSum format NearestTiesToEven first second (negated IEEE754 product) rest flags
    → IsWholeNumberAt (x -ℤ number product) rest
two_product format a c t rest flags x k wide fa fc ft w l n h =
    let r = x -ℤ number t in
    let e = rest_times x (number t) (number (negated IEEE754 t)) (pos (2 ^ format.scale)) (number a) (number c)
    (negated_number t ft) w.is in
    let o : IsGridNumber format.precision (x -ℤ number t) = on_grid_as (magnitude-sub (number t) x)
    (product_error_on_grid format.precision wide format.scale (number a) (number c) x (number t) w n) in
    let s = error_eighth format.precision wide x (number t) n in
    let b : magnitude (x -ℤ number t) ≤ largest format = omega (arith, s, magnitude-sub (number t) x, l) in
    let m : magnitude (fused_sum format a c (negated IEEE754 t)) ≡ magnitude (x -ℤ number t) * 2 ^ format.scale =
    ap magnitude (sym e) ∙ magnitude-times (x -ℤ number t) (2 ^ format.scale) in
    let b' : magnitude (fused_sum format a c (negated IEEE754 t)) ≤ largest format * 2 ^ format.scale =
    subst (λ (i : ℕ). i ≤ largest format * 2 ^ format.scale) (sym m) (mul-le-mul_right (2 ^ format.scale) b) in
    let q = fused_within format a c (negated IEEE754 t) rest flags k fa fc (negated_finite t ft) b' h in
    let z = whole_rounded format.precision (2 ^ format.scale) (fused_sum format a c (negated IEEE754 t))
    (x -ℤ number t) rest (pow_pos format.scale) e q in
    record {
      is_finite = z.is_finite;
      number_is = nearest_exact format.precision (x -ℤ number t) (number rest) o z.nearest;
    }
