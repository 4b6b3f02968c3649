-- Sums of pairs: TwoSum of the high parts, the two low parts, and Fast2Sum, which closes the sum.
use Rattle.std.proofs.Common.{◌≡◌, ℕ, ◌+◌, ◌-◌, ◌*◌, ◌^◌, ◌<◌, ◌≤◌, sym, ap, subst, ⊎_elim, arith}
use Rattle.std.proofs.Math.Nat.{mul-le-mul_right}
use Rattle.std.proofs.lemmas.{Nat.pow-add, Nat.pow_pos, Bool.cases_lt, Int.ints}
use Rattle.std.specs.Prelude.{ℤ, pos, ◌+ℤ◌, ◌-ℤ◌}
use Rattle.apfloat_model.specs.arithmetic.Exact.{magnitude}
use Rattle.apfloat_model.proofs.arithmetic.Signs.{one_side}
use Rattle.apfloat_pair_theory.proofs.numbers.Signed.{magnitude-sub, magnitude_le, IsMultiple, sum_multiple}
use Rattle.apfloat_pair_theory.proofs.numbers.Signed.{finer_multiple, coarse_multiple, grid_bound, IsGridNumber}
use Rattle.apfloat_pair_theory.proofs.numbers.Signed.{on_grid_as, common}
use Rattle.apfloat_pair_theory.proofs.numbers.Nearest.{IsNearest, nearest_exact, relative_error, nearest_cases}
use Rattle.apfloat_pair_theory.proofs.numbers.{Nearest.error_on_grid, TwoSums.positive}
use Rattle.apfloat_pair_theory.proofs.numbers.TwoSums.{IsShared, shared, fast_two_sum_difference, IsTwoSum, two_sum}

-- the three roundings of Fast2Sum of z and w, which closes a sum: h, its error l, and g between them
pub record IsFastTwoSum (precision : ℕ) (z w h g l : ℤ) : Type 0 where
  pub sum : IsNearest precision (z +ℤ w) h
  pub first : IsNearest precision (z -ℤ h) g
  pub last : IsNearest precision (g +ℤ w) l

-- the roundings of a sum of the pairs (a, aa) and (c, cc) before the closing sum: z, its exact error e, and e plus the
-- low parts
pub record IsOpening (precision : ℕ) (a aa c cc z q v r d e x y : ℤ) : Type 0 where
  pub six : IsTwoSum precision a c z q v r d e
  pub with_first : IsNearest precision (e +ℤ aa) x
  pub with_second : IsNearest precision (x +ℤ cc) y

-- a multiple of 2 ^ (j + d) is a multiple of 2 ^ j
multiple_below : (j d n : ℕ) → IsMultiple (2 ^ (j + d)) n → IsMultiple (2 ^ j) n
multiple_below j d n x =
    let e : 2 ^ (j + d) ≡ 2 ^ j * 2 ^ d = pow-add 2 j d in
    let a : n ≡ x.times * 2 ^ (j + d) = x.is in
    let b : x.times * 2 ^ (j + d) ≡ x.times * (2 ^ j * 2 ^ d) = ap (λ (i : ℕ). x.times * i) e in
    record { times = x.times * 2 ^ d; is = omega arith }

-- a multiple of a power of two is a multiple of each lesser power
multiple_at : (j k n : ℕ) → j ≤ k → IsMultiple (2 ^ k) n → IsMultiple (2 ^ j) n
multiple_at j k n h x =
    let e : k ≡ j + (k - j) = omega arith in multiple_below j (k - j) n (subst (λ (i : ℕ). IsMultiple (2 ^ i) n) e x)

-- a multiple and a grid number within its bound share a place
shared_at : (precision k : ℕ) (z y : ℤ) → IsMultiple (2 ^ k) (magnitude z) → IsGridNumber precision y
    → magnitude y < 2 ^ precision * 2 ^ k → IsShared precision z y
shared_at precision k z y x g h =
    ⊎_elim
    (λ (q : k < g.place). record {
      place = k;
      first = x;
      second = coarse_multiple precision (magnitude y) k g (omega arith);
      bound = h;
    })
    (λ (q : g.place ≤ k). record {
      place = g.place;
      first = multiple_at g.place k (magnitude z) q x;
      second = coarse_multiple precision
          (magnitude y) g.place g (omega arith);
      bound = grid_bound precision (magnitude y) g;
    })
    (cases_lt k g.place)

-- with three digits or more, an error is at most an eighth of the number
pub eighth : (p e s : ℕ) → 8 ≤ p → p * e ≤ s → 8 * e ≤ s
eighth p e s w h = let b : 8 * e ≤ p * e = mul-le-mul_right e w in omega arith

-- a rounded sum is at most the two magnitudes and its error
pub rounded_low : (x y z : ℤ) → magnitude z ≤ magnitude x + magnitude y + magnitude (z -ℤ (x +ℤ y))
rounded_low x y z = omega (arith, ints, one_side z, one_side x, one_side y, one_side (z -ℤ (x +ℤ y)))

-- if the rounded sum is less than what is added to it, that is at most the second summand
small_rest : (z e s a aa c cc i x j y : ℕ) → 8 * e ≤ s → s ≤ z + e → 8 * aa ≤ a + aa → 8 * cc ≤ c + cc → 8 * i ≤ e + aa
    → x ≤ e + aa + i → 8 * j ≤ x + cc → y ≤ x + cc + j → a ≤ s + c → z < y → y ≤ c
small_rest z e s a aa c cc i x j y h1 h2 h3 h4 h5 h6 h7 h8 h9 h0 = omega arith

-- if the rounded sum is less than what is added to it, that is at most the first summand
small_rest_first : (z e s a aa c cc i x j y : ℕ) → 8 * e ≤ s → s ≤ z + e → 8 * aa ≤ a + aa → 8 * cc ≤ c + cc
    → 8 * i ≤ e + aa → x ≤ e + aa + i → 8 * j ≤ x + cc → y ≤ x + cc + j → c ≤ s + a → z < y → y ≤ a
small_rest_first z e s a aa c cc i x j y h1 h2 h3 h4 h5 h6 h7 h8 h9 h0 = omega arith

module _ (precision : ℕ) (wide : 8 ≤ 2 ^ precision) where
  -- Fast2Sum (Dekker) has no error: h + l is exactly z + w
  pub fast_two_sum : (z w h g l : ℤ) → IsGridNumber precision z → IsGridNumber precision w → IsShared precision z w
      → IsFastTwoSum precision z w h g l → (h +ℤ l) ≡ (z +ℤ w)
  fast_two_sum z w h g l o p s x =
      let t = fast_two_sum_difference precision wide z w h o s x.sum in
      let e₁ : g ≡ (z -ℤ h) = nearest_exact precision (z -ℤ h) g (on_grid_as (magnitude-sub h z) t) x.first in
      let v = error_on_grid precision wide z w h o p x.sum in
      let m : magnitude (h -ℤ (z +ℤ w)) ≡ magnitude (g +ℤ w) =
      omega (arith, ints, one_side (h -ℤ (z +ℤ w)), one_side (g +ℤ w)) in
      let e₂ : l ≡ (g +ℤ w) = nearest_exact precision (g +ℤ w) l (on_grid_as m v) x.last in
      omega (arith, ints)

  -- the error e of a rounded sum is on the grid
  pub rest_on_grid : (a c z e : ℤ) → IsGridNumber precision a → IsGridNumber precision c
      → IsNearest precision (a +ℤ c) z → e ≡ ((a +ℤ c) -ℤ z) → IsGridNumber precision e
  rest_on_grid a c z e o p n d =
      on_grid_as (omega (arith, ints, one_side (z -ℤ (a +ℤ c)), one_side e)) (error_on_grid precision wide a c z o p n)

  -- the error of a rounded sum is small relative to the sum
  pub rest_small : (a c z e : ℤ) → IsNearest precision (a +ℤ c) z → e ≡ ((a +ℤ c) -ℤ z)
      → 2 ^ precision * magnitude e ≤ magnitude (a +ℤ c)
  rest_small a c z e n d =
      let m : magnitude (z -ℤ (a +ℤ c)) ≡ magnitude e = omega (arith, ints, one_side (z -ℤ (a +ℤ c)), one_side e) in
      subst (λ (i : ℕ). 2 ^ precision * i ≤ magnitude (a +ℤ c)) m
      (relative_error precision (a +ℤ c) z (positive precision wide) n)

  -- if both low parts are zero, z and y are the exact sum, and y is the lesser
  pub exact_opening : (a aa c cc z q v r d e x y : ℤ) → IsGridNumber precision a → IsGridNumber precision c → aa ≡ pos 0
      → cc ≡ pos 0 → IsOpening precision a aa c cc z q v r d e x y → ((z +ℤ y) ≡ (a +ℤ c)) × IsShared precision z y
  exact_opening a aa c cc z q v r d e x y o p u w k =
      let f : e ≡ ((a +ℤ c) -ℤ z) = two_sum precision wide a c z q v r d e o p k.six in
      let b = rest_on_grid a c z e o p k.six.sum f in
      let m₁ : magnitude e ≡ magnitude (e +ℤ aa) = omega (arith, ints, one_side e, one_side (e +ℤ aa)) in
      let e₁ : x ≡ (e +ℤ aa) = nearest_exact precision (e +ℤ aa) x (on_grid_as m₁ b) k.with_first in
      let m₂ : magnitude e ≡ magnitude (x +ℤ cc) = omega (arith, ints, one_side e, one_side (x +ℤ cc)) in
      let e₂ : y ≡ (x +ℤ cc) = nearest_exact precision (x +ℤ cc) y (on_grid_as m₂ b) k.with_second in
      let s : 8 * magnitude e ≤ magnitude (a +ℤ c) =
      eighth (2 ^ precision) (magnitude e) (magnitude (a +ℤ c)) wide (rest_small a c z e k.six.sum f) in
      let t : magnitude (a +ℤ c) ≤ magnitude z + magnitude e =
      omega (arith, ints, one_side (a +ℤ c), one_side z, one_side e) in
      let m₃ : magnitude e ≡ magnitude y = omega (arith, ints, one_side e, one_side y) in
      let v : (z +ℤ y) ≡ (a +ℤ c) = omega (arith, ints) in
      (v, shared precision z y k.six.sum.on_grid k.with_second.on_grid (omega arith))

  -- the rounded sum of two multiples is a multiple
  sum_multiple_at : (k : ℕ) (a c z : ℤ) → IsMultiple (2 ^ k) (magnitude a) → IsMultiple (2 ^ k) (magnitude c)
      → IsNearest precision (a +ℤ c) z → IsMultiple (2 ^ k) (magnitude z)
  sum_multiple_at k a c z x y n =
      let s = sum_multiple (2 ^ k) a c (pow_pos k) x y in
      ⊎_elim (λ (e : z ≡ a +ℤ c). subst (λ (i : ℤ). IsMultiple (2 ^ k) (magnitude i)) (sym e) s)
      (λ q. finer_multiple k (magnitude z) q.1) (nearest_cases precision wide k (a +ℤ c) z s n)

  -- a number that is above neither of two numbers shares a place with their rounded sum
  shared_below : (a c z y : ℤ) → IsGridNumber precision a → IsGridNumber precision c → IsNearest precision (a +ℤ c) z
      → IsGridNumber precision y → magnitude y ≤ magnitude a → magnitude y ≤ magnitude c → IsShared precision z y
  shared_below a c z y ga gc nz gy la lc =
      let u = common precision a c ga gc in
      shared_at precision u.place z y (sum_multiple_at u.place a c z u.first u.second nz) gy (omega (arith, u.bound))

  -- the error of a rounding is at most an eighth of the number
  pub error_eighth : (x z : ℤ) → IsNearest precision x z → 8 * magnitude (z -ℤ x) ≤ magnitude x
  error_eighth x z n = eighth _ _ _ wide (relative_error precision x z (positive precision wide) n)

  -- the low part is small relative to the number, if the number rounds to its high part
  pub low_small : (a aa : ℤ) → IsNearest precision (a +ℤ aa) a → 2 ^ precision * magnitude aa ≤ magnitude (a +ℤ aa)
  low_small a aa n =
      let m : magnitude (a -ℤ (a +ℤ aa)) ≡ magnitude aa = omega (arith, ints, one_side aa, one_side (a -ℤ (a +ℤ aa))) in
      subst (λ (i : ℕ). 2 ^ precision * i ≤ magnitude (a +ℤ aa)) m
      (relative_error precision (a +ℤ aa) a (positive precision wide) n)

  -- the low part of a normalized pair is at most a seventh of its high part
  pub low_eighth : (a aa : ℤ) → IsNearest precision (a +ℤ aa) a → 8 * magnitude aa ≤ magnitude a + magnitude aa
  low_eighth a aa n = let r = eighth _ _ _ wide (low_small a aa n) in let l = magnitude_le a aa in omega (arith, r, l)

  -- the error of a rounded sum is at most an eighth of the two magnitudes added
  error_low : (x y z : ℤ) → IsNearest precision (x +ℤ y) z → 8 * magnitude (z -ℤ (x +ℤ y)) ≤ magnitude x + magnitude y
  error_low x y z n = let r = error_eighth (x +ℤ y) z n in let l = magnitude_le x y in omega (arith, r, l)

  -- the closing sum of two normalized pairs has no error
  pub closing_shared : (a aa c cc z e x y : ℤ) → IsNearest precision (a +ℤ aa) a → IsNearest precision (c +ℤ cc) c
      → IsNearest precision (a +ℤ c) z → e ≡ ((a +ℤ c) -ℤ z)
      → IsNearest precision (e +ℤ aa) x → IsNearest precision (x +ℤ cc) y → IsShared precision z y
  closing_shared a aa c cc z e x y na nc nz f nx ny =
      let h₁ = eighth _ _ _ wide (rest_small a c z e nz f) in
      let h₂ : magnitude (a +ℤ c) ≤ magnitude z + magnitude e =
      omega (arith, ints, one_side (a +ℤ c), one_side z, one_side e) in
      let da : magnitude a ≤ magnitude (a +ℤ c) + magnitude c =
      omega (arith, ints, one_side a, one_side c, one_side (a +ℤ c)) in
      let dc : magnitude c ≤ magnitude (a +ℤ c) + magnitude a =
      omega (arith, ints, one_side a, one_side c, one_side (a +ℤ c)) in
      let la = low_eighth a aa na in
      let lc = low_eighth c cc nc in
      let ex = error_low e aa x nx in
      let ey = error_low x cc y ny in
      let bx = rounded_low e aa x in
      let by = rounded_low x cc y in
      ⊎_elim (λ (q : magnitude z < magnitude y). shared_below a c z y na.on_grid nc.on_grid nz ny.on_grid
      (small_rest_first _ _ _ _ _ _ _ _ _ _ _ h₁ h₂ la lc ex bx ey by dc q)
      (small_rest _ _ _ _ _ _ _ _ _ _ _ h₁ h₂ la lc ex bx ey by da q))
      (λ (q : magnitude y ≤ magnitude z). shared precision z y nz.on_grid ny.on_grid q)
      (cases_lt (magnitude z) (magnitude y))
