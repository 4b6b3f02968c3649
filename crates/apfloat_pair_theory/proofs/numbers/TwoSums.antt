-- Error-free sums, each a rounded sum with its exact error: TwoSum (Møller, Knuth) by six roundings, for operands in
-- any order, and the subtraction of Fast2Sum (Dekker), for a first operand of greater magnitude.
use Rattle.std.proofs.Common.{◌≡◌, ℕ, zero, suc, ◌+◌, ◌*◌, ◌^◌, ◌<◌, ◌≤◌, sym, ap, subst, ⊎_elim, arith}
use Rattle.std.proofs.Math.Nat.{mul-le-mul_right, lt_of_mul-lt-mul_left, lt_of_mul-lt-mul_right}
use Rattle.std.proofs.lemmas.{Nat.pow-add, Nat.pow_pos, Bool.cases_lt, Int.ints}
use Rattle.std.specs.Prelude.{ℤ, ◌+ℤ◌, ◌-ℤ◌, neg_ℤ}
use Rattle.apfloat_model.specs.arithmetic.Exact.{magnitude}
use Rattle.apfloat_model.proofs.{arithmetic.Signs.one_side, rounding.Laws.zero_on_grid}
use Rattle.apfloat_pair_theory.proofs.numbers.Signed.{magnitude-neg, magnitude-sub, magnitude_le, IsMultiple}
use Rattle.apfloat_pair_theory.proofs.numbers.Signed.{sum_multiple, difference_multiple, finer_multiple}
use Rattle.apfloat_pair_theory.proofs.numbers.Signed.{coarse_multiple, grid_bound_at, on_grid_from, bound_on_grid}
use Rattle.apfloat_pair_theory.proofs.numbers.Signed.{neg_on_grid, cancelled, IsGridNumber, on_grid_as, common}
use Rattle.apfloat_pair_theory.proofs.numbers.Nearest.{IsNearest, nearest_exact, nearest_reaches, error_le_second}
use Rattle.apfloat_pair_theory.proofs.numbers.Nearest.{relative_error, nearest_cases, error_on_grid}

-- the precision is at least one digit
pub positive : (precision : ℕ) → 8 ≤ 2 ^ precision → 0 < precision
positive zero h = absurd (omega (arith, h))
positive (suc p) h = omega arith

-- a multiple below two units is at most one
small_multiple : (u n : ℕ) → IsMultiple u n → n < 2 * u → n ≤ u
small_multiple u n x h =
    let a : n ≡ x.times * u = x.is in
    let l : x.times * u < 2 * u = omega arith in
    let k : x.times < 2 = lt_of_mul-lt-mul_right u l in
    let k' : x.times ≤ 1 = omega arith in
    let b : x.times * u ≤ 1 * u = mul-le-mul_right u k' in
    omega arith

-- a multiple below another is at least one unit below it
unit_below : (t u n : ℕ) → IsMultiple u n → n < t * u → n + u ≤ t * u
unit_below t u n x h =
    let a : n ≡ x.times * u = x.is in
    let l : x.times * u < t * u = omega arith in
    let k : x.times < t = lt_of_mul-lt-mul_right u l in
    let k' : x.times + 1 ≤ t = omega arith in
    let b : (x.times + 1) * u ≤ t * u = mul-le-mul_right u k' in
    omega arith

-- a power of two that both numbers are multiples of, and that bounds the second
pub record IsShared (precision : ℕ) (a c : ℤ) : Type 0 where
  pub place : ℕ
  pub first : IsMultiple (2 ^ place) (magnitude a)
  pub second : IsMultiple (2 ^ place) (magnitude c)
  pub bound : magnitude c < 2 ^ precision * 2 ^ place

-- two grid numbers are multiples of one power of two, in which the lesser has at most `precision` digits
pub shared : (precision : ℕ) (a c : ℤ) → IsGridNumber precision a → IsGridNumber precision c → magnitude c ≤ magnitude a
    → IsShared precision a c
shared precision a c g h l =
    let u = common precision a c g h in
    record { place = u.place; first = u.first; second = u.second; bound = omega (arith, u.bound) }

-- a bound of the exact first difference, from the error of the sum
pub first_at : (a c z : ℤ) → magnitude (a -ℤ z) ≤ magnitude c + magnitude (z -ℤ (a +ℤ c))
first_at a c z = omega (arith, ints, one_side (a -ℤ z), one_side c, one_side (z -ℤ (a +ℤ c)))

-- a bound of the exact second sum, from both errors
pub second_at : (a c z q : ℤ) → magnitude (q +ℤ c) ≤ magnitude (q -ℤ (a -ℤ z)) + magnitude (z -ℤ (a +ℤ c))
second_at a c z q = omega (arith, ints, one_side (q +ℤ c), one_side (q -ℤ (a -ℤ z)), one_side (z -ℤ (a +ℤ c)))

module _ (precision : ℕ) (wide : 8 ≤ 2 ^ precision) where
  -- z - a is a grid number if a, too, has at most `precision` digits in the unit
  fast_low : (k : ℕ) (a c z : ℤ) → magnitude a < 2 ^ precision * 2 ^ k → IsMultiple (2 ^ k) (magnitude a)
      → IsMultiple (2 ^ k) (magnitude c) → magnitude c < 2 ^ precision * 2 ^ k → IsMultiple (2 ^ k) (magnitude z)
      → IsNearest precision (a +ℤ c) z → IsGridNumber precision (z -ℤ a)
  fast_low k a c z h x y l w n =
      let u = pow_pos k in
      let r : 2 ^ precision * magnitude (z -ℤ (a +ℤ c)) ≤ magnitude (a +ℤ c) =
      relative_error precision (a +ℤ c) z (positive precision wide) n in
      let s : magnitude (a +ℤ c) ≤ magnitude a + magnitude c = magnitude_le a c in
      let t : 2 ^ precision * magnitude (z -ℤ (a +ℤ c)) < 2 ^ precision * (2 * 2 ^ k) = omega arith in
      let t' : magnitude (z -ℤ (a +ℤ c)) < 2 * 2 ^ k = lt_of_mul-lt-mul_left (2 ^ precision) t in
      let m : IsMultiple (2 ^ k) (magnitude (z -ℤ (a +ℤ c))) =
      difference_multiple (2 ^ k) z (a +ℤ c) u w (sum_multiple (2 ^ k) a c u x y) in
      let e : magnitude (z -ℤ (a +ℤ c)) ≤ 2 ^ k = small_multiple (2 ^ k) (magnitude (z -ℤ (a +ℤ c))) m t' in
      let d : magnitude c + 2 ^ k ≤ 2 ^ precision * 2 ^ k = unit_below (2 ^ precision) (2 ^ k) (magnitude c) y l in
      let f : magnitude (z -ℤ a) ≤ magnitude c + magnitude (z -ℤ (a +ℤ c)) =
      omega (arith, first_at a c z, magnitude-sub z a) in
      ⊎_elim (λ (q : magnitude (z -ℤ a) < 2 ^ precision * 2 ^ k). on_grid_from precision k (magnitude (z -ℤ a))
      (difference_multiple (2 ^ k) z a u w x) q) (λ (q : 2 ^ precision * 2 ^ k ≤ magnitude (z -ℤ a)).
      on_grid_as (omega arith) (bound_on_grid precision k (omega (arith, wide))))
      (cases_lt (magnitude (z -ℤ a)) (2 ^ precision * 2 ^ k))

  -- z - a is a grid number if a and z are multiples of twice the unit
  fast_high : (k : ℕ) (a c z : ℤ) → IsMultiple (2 ^ (k + 1)) (magnitude a) → magnitude c < 2 ^ precision * 2 ^ k
      → IsMultiple (2 ^ (k + 1)) (magnitude z)
      → magnitude (z -ℤ (a +ℤ c)) ≤ magnitude c → IsGridNumber precision (z -ℤ a)
  fast_high k a c z x l w n =
      let f : magnitude (z -ℤ a) ≤ magnitude c + magnitude (z -ℤ (a +ℤ c)) =
      omega (arith, first_at a c z, magnitude-sub z a) in
      let e : 2 ^ (k + 1) ≡ 2 ^ k * 2 = pow-add 2 k 1 in
      let d : 2 ^ precision * 2 ^ (k + 1) ≡ 2 ^ precision * (2 ^ k * 2) = ap (λ (i : ℕ). 2 ^ precision * i) e in
      on_grid_from precision (k + 1) (magnitude (z -ℤ a)) (difference_multiple (2 ^ (k + 1)) z a (pow_pos (k + 1)) w x)
      (omega arith)

  -- the subtraction of Fast2Sum (Dekker): if a is a multiple of a unit in which c has at most `precision` digits, z - a
  -- is exact
  pub fast_two_sum_difference : (a c z : ℤ) → IsGridNumber precision a → IsShared precision a c
      → IsNearest precision (a +ℤ c) z → IsGridNumber precision (z -ℤ a)
  fast_two_sum_difference a c z g s n =
      let k = s.place in
      ⊎_elim
      (λ (e : z ≡ a +ℤ c).
      let v : magnitude c ≡ magnitude (z -ℤ a) = omega (arith, ints, one_side c, one_side (z -ℤ a)) in
      on_grid_as v (on_grid_from precision s.place (magnitude c) s.second s.bound))
      (λ q.
      ⊎_elim
      (λ (l : s.place < g.place). fast_high s.place a c z
      (coarse_multiple precision (magnitude a) (s.place + 1) g (omega arith)) s.bound q.1
      (error_le_second precision a c z g n))
      (λ (l : g.place ≤ s.place). fast_low s.place a c z (grid_bound_at precision (magnitude a) s.place g l) s.first
      s.second s.bound
      (finer_multiple s.place (magnitude z) q.1) n)
      (cases_lt s.place g.place))
      (nearest_cases precision wide s.place (a +ℤ c) z
      (sum_multiple (2 ^ s.place) a c (pow_pos s.place) s.first s.second) n)

  -- the subtraction of Fast2Sum is exact if the magnitude of a is not the lesser
  pub fast_two_sum_difference_greater : (a c z : ℤ) → IsGridNumber precision a → IsGridNumber precision c
      → magnitude c ≤ magnitude a → IsNearest precision (a +ℤ c) z → IsGridNumber precision (z -ℤ a)
  fast_two_sum_difference_greater a c z g h l n = fast_two_sum_difference a c z g (shared precision a c g h l) n

-- the six roundings of TwoSum of a and c
pub record IsTwoSum (precision : ℕ) (a c z q zz r d w : ℤ) : Type 0 where
  pub sum : IsNearest precision (a +ℤ c) z
  pub first : IsNearest precision (a -ℤ z) q
  pub second : IsNearest precision (q +ℤ c) zz
  pub third : IsNearest precision (q +ℤ z) r
  pub fourth : IsNearest precision (r -ℤ a) d
  pub last : IsNearest precision (zz +ℤ neg_ℤ d) w

-- the error of a sum is at most a quarter of its greater operand
quarter : (p e s a c : ℕ) → 8 ≤ p → p * e ≤ s → s ≤ a + c → a < c → 4 * e ≤ c
quarter p e s a c w h l k = let b : 8 * e ≤ p * e = mul-le-mul_right e w in omega arith

module _ (precision : ℕ) (wide : 8 ≤ 2 ^ precision) where
  -- if z - a is a grid number, w is the exact error
  exact_first : (a c z q zz r d w : ℤ) → IsGridNumber precision a → IsGridNumber precision c
      → IsGridNumber precision (z -ℤ a) → IsTwoSum precision a c z q zz r d w → w ≡ ((a +ℤ c) -ℤ z)
  exact_first a c z q zz r d w g h o x =
      let e₁ : q ≡ (a -ℤ z) = nearest_exact precision (a -ℤ z) q (on_grid_as (magnitude-sub z a) o) x.first in
      let s = error_on_grid precision wide a c z g h x.sum in
      let m₂ : magnitude (z -ℤ (a +ℤ c)) ≡ magnitude (q +ℤ c) =
      omega (arith, ints, one_side (z -ℤ (a +ℤ c)), one_side (q +ℤ c)) in
      let e₂ : zz ≡ (q +ℤ c) = nearest_exact precision (q +ℤ c) zz (on_grid_as m₂ s) x.second in
      let m₃ : magnitude a ≡ magnitude (q +ℤ z) = omega (arith, ints, one_side a, one_side (q +ℤ z)) in
      let e₃ : r ≡ (q +ℤ z) = nearest_exact precision (q +ℤ z) r (on_grid_as m₃ g) x.third in
      let m₄ : 0 ≡ magnitude (r -ℤ a) = omega (arith, ints, one_side (r -ℤ a)) in
      let e₄ : d ≡ (r -ℤ a) = nearest_exact precision (r -ℤ a) d (on_grid_as m₄ (zero_on_grid precision)) x.fourth in
      let m₅ : magnitude (z -ℤ (a +ℤ c)) ≡ magnitude (zz +ℤ neg_ℤ d) =
      omega (arith, ints, one_side (z -ℤ (a +ℤ c)), one_side (zz +ℤ neg_ℤ d)) in
      let e₅ : w ≡ (zz +ℤ neg_ℤ d) = nearest_exact precision (zz +ℤ neg_ℤ d) w (on_grid_as m₅ s) x.last in
      omega (arith, ints)

  -- if the first operand is the lesser, w is the exact error
  rounded_first : (a c z q zz r d w : ℤ) → IsGridNumber precision a → IsGridNumber precision c
      → magnitude a < magnitude c → magnitude a ≤ magnitude z → IsTwoSum precision a c z q zz r d w
      → w ≡ ((a +ℤ c) -ℤ z)
  rounded_first a c z q zz r d w g h l k x =
      let s = error_on_grid precision wide a c z g h x.sum in
      let o : IsGridNumber precision (neg_ℤ z) = neg_on_grid precision z x.sum.on_grid in
      let y : neg_ℤ z +ℤ a ≡ a -ℤ z = omega (arith, ints) in
      let n : IsNearest precision (neg_ℤ z +ℤ a) q = subst (λ (i : ℤ). IsNearest precision i q) (sym y) x.first in
      let k' : magnitude a ≤ magnitude (neg_ℤ z) = let b : magnitude (neg_ℤ z) ≡ magnitude z = magnitude-neg z in
      omega arith in
      let t = fast_two_sum_difference_greater precision wide (neg_ℤ z) a q o g k' n in
      let m₃ : magnitude (q -ℤ neg_ℤ z) ≡ magnitude (q +ℤ z) =
      omega (arith, ints, one_side (q -ℤ neg_ℤ z), one_side (q +ℤ z)) in
      let e₃ : r ≡ (q +ℤ z) = nearest_exact precision (q +ℤ z) r (on_grid_as m₃ t) x.third in
      let v = error_on_grid precision wide (neg_ℤ z) a q o g n in
      let m₄ : magnitude (q -ℤ (neg_ℤ z +ℤ a)) ≡ magnitude (r -ℤ a) =
      omega (arith, ints, one_side (q -ℤ (neg_ℤ z +ℤ a)), one_side (r -ℤ a)) in
      let e₄ : d ≡ (r -ℤ a) = nearest_exact precision (r -ℤ a) d (on_grid_as m₄ v) x.fourth in
      let f = x.first.nearest (neg_ℤ c) (neg_on_grid precision c h) in
      let f' : magnitude (neg_ℤ c -ℤ (a -ℤ z)) ≡ magnitude (z -ℤ (a +ℤ c)) =
      omega (arith, ints, one_side (neg_ℤ c -ℤ (a -ℤ z)), one_side (z -ℤ (a +ℤ c))) in
      let i : 4 * magnitude (z -ℤ (a +ℤ c)) ≤ magnitude c = quarter (2 ^ precision) _ _ _ _ wide
      (relative_error precision (a +ℤ c) z (positive precision wide) x.sum) (magnitude_le a c) l in
      let b : magnitude (q +ℤ c) ≤ magnitude (q -ℤ (a -ℤ z)) + magnitude (z -ℤ (a +ℤ c)) = second_at a c z q in
      let b' : magnitude c ≤ magnitude q + magnitude (q +ℤ c) =
      omega (arith, ints, one_side c, one_side q, one_side (q +ℤ c)) in
      let e₂ : zz ≡ (q +ℤ c) = nearest_exact precision (q +ℤ c) zz
      (cancelled precision q c x.first.on_grid h (omega (arith, f)) (omega (arith, f))) x.second in
      let m₅ : magnitude (z -ℤ (a +ℤ c)) ≡ magnitude (zz +ℤ neg_ℤ d) =
      omega (arith, ints, one_side (z -ℤ (a +ℤ c)), one_side (zz +ℤ neg_ℤ d)) in
      let e₅ : w ≡ (zz +ℤ neg_ℤ d) = nearest_exact precision (zz +ℤ neg_ℤ d) w (on_grid_as m₅ s) x.last in
      omega (arith, ints)

  -- TwoSum (Møller, Knuth): the last of the six is the exact error of the sum, in any order and for any signs
  pub two_sum : (a c z q zz r d w : ℤ) → IsGridNumber precision a → IsGridNumber precision c
      → IsTwoSum precision a c z q zz r d w → w ≡ ((a +ℤ c) -ℤ z)
  two_sum a c z q zz r d w g h x =
      ⊎_elim
      (λ (l : magnitude a < magnitude c).
      ⊎_elim
      (λ (k : magnitude (a +ℤ c) < magnitude a).
      let o : IsGridNumber precision (a +ℤ c) = cancelled precision a c g h (omega arith) (omega arith) in
      let e : z ≡ (a +ℤ c) = nearest_exact precision (a +ℤ c) z o x.sum in
      exact_first a c z q zz r d w g h (on_grid_as (omega (arith, ints, one_side c, one_side (z -ℤ a))) h) x)
      (λ (k : magnitude a ≤ magnitude (a +ℤ c)). rounded_first a c z q zz r d w g h l
      (nearest_reaches precision (magnitude a) (a +ℤ c) z g k x.sum) x)
      (cases_lt (magnitude (a +ℤ c)) (magnitude a)))
      (λ (l : magnitude c ≤ magnitude a).
      exact_first a c z q zz r d w g h (fast_two_sum_difference_greater precision wide a c z g h l x.sum) x)
      (cases_lt (magnitude a) (magnitude c))
