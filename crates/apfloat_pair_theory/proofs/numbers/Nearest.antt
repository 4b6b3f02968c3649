-- A grid number nearest to an integer, whichever way ties go; the error of a rounded sum, and exact subtractions.
use Rattle.std.proofs.Common.{◌≡◌, ℕ, ◌+◌, ◌-◌, ◌*◌, ◌/◌, ◌^◌, ◌<◌, ◌≤◌, ◌⊎◌, sym, ap, inl, inr, ⊎_elim, arith, lit<}
use Rattle.std.proofs.Math.Nat.{mul-le-mul_right, mul-le-mul_left}
use Rattle.std.proofs.lemmas.{Nat.pow_pos, Bool.cases_lt, Int.ints}
use Rattle.std.specs.Prelude.{ℤ, pos, negsuc, ◌+ℤ◌, ◌-ℤ◌, ◌≤ℤ◌, neg_ℤ}
use Rattle.apfloat_model.specs.{rounding.Grid.IsOnGrid, rounding.Enclosure.IsEnclosed, arithmetic.Exact.magnitude}
use Rattle.apfloat_model.proofs.{rounding.Laws.zero_on_grid, general.Powers.twice_half, arithmetic.Signs.one_side}
use Rattle.apfloat_model.proofs.rounding.NeighboursExist.{enclosed_at}
use Rattle.apfloat_model.proofs.rounding.Neighbours.{multiple_on_grid, next_on_grid}
use Rattle.apfloat_pair_theory.proofs.numbers.Signed.{IsMultiple, sum_multiple, difference_multiple, finer_multiple}
use Rattle.apfloat_pair_theory.proofs.numbers.Signed.{coarse_multiple, grid_bound_at, on_grid_from, bound_on_grid}
use Rattle.apfloat_pair_theory.proofs.numbers.Signed.{neg_on_grid, IsGridNumber, on_grid_as, common}

-- no grid number is nearer to `exact` than z
pub record IsNearest (precision : ℕ) (exact z : ℤ) : Type 0 where
  pub on_grid : IsGridNumber precision z
  pub nearest : (other : ℤ) → IsGridNumber precision other → magnitude (z -ℤ exact) ≤ magnitude (other -ℤ exact)

-- a number that is no farther from x than x itself is x
pub same_from_none : (x z : ℤ) → magnitude (z -ℤ x) ≤ magnitude (x -ℤ x) → z ≡ x
same_from_none x z h = omega (arith, ints, h, one_side (z -ℤ x), one_side (x -ℤ x))

-- a grid number rounds to itself
pub nearest_exact : (precision : ℕ) (x z : ℤ) → IsGridNumber precision x → IsNearest precision x z → z ≡ x
nearest_exact precision x z g n = same_from_none x z (n.nearest x g)

-- a number no farther from x than a number below x is not below that number
above_from : (g x z : ℤ) → g ≤ℤ x → magnitude (z -ℤ x) ≤ magnitude (g -ℤ x) → g ≤ℤ z
above_from g x z l h = omega (arith, ints, h, one_side (z -ℤ x), one_side (g -ℤ x))

-- a number no farther from x than a number above x is not above that number
below_from : (g x z : ℤ) → x ≤ℤ g → magnitude (z -ℤ x) ≤ magnitude (g -ℤ x) → z ≤ℤ g
below_from g x z l h = omega (arith, ints, h, one_side (z -ℤ x), one_side (g -ℤ x))

-- a nearest number does not pass a grid number below
pub nearest_above : (precision : ℕ) (g x z : ℤ) → IsGridNumber precision g → g ≤ℤ x → IsNearest precision x z → g ≤ℤ z
nearest_above precision g x z o l n = above_from g x z l (n.nearest g o)

-- a nearest number does not pass a grid number above
pub nearest_below : (precision : ℕ) (g x z : ℤ) → IsGridNumber precision g → x ≤ℤ g → IsNearest precision x z → z ≤ℤ g
nearest_below precision g x z o l n = below_from g x z l (n.nearest g o)

-- the magnitude of a nearest number is at least each grid magnitude that is at most the number's
pub nearest_reaches : (precision n : ℕ) (x z : ℤ) → IsOnGrid precision n → n ≤ magnitude x → IsNearest precision x z
    → n ≤ magnitude z
nearest_reaches precision n (pos m) z o l e =
    let h : pos n ≤ℤ z =
    nearest_above precision (pos n) (pos m) z (on_grid_as (omega arith) o) (omega (arith, ints)) e in
    omega (arith, ints, one_side z)
nearest_reaches precision n (negsuc m) z o l e =
    let o' : IsGridNumber precision (neg_ℤ (pos n)) = neg_on_grid precision (pos n) (on_grid_as (omega arith) o) in
    let h : z ≤ℤ neg_ℤ (pos n) = nearest_below precision (neg_ℤ (pos n)) (negsuc m) z o' (omega (arith, ints)) e in
    omega (arith, ints, one_side z)

-- the error is at most the distance to a grid magnitude
pub nearest_by : (precision n : ℕ) (x z : ℤ) → IsOnGrid precision n → IsNearest precision x z
    → magnitude (z -ℤ x) ≤ (n - magnitude x) + (magnitude x - n)
nearest_by precision n (pos m) z o e =
    let d : magnitude (pos n -ℤ pos m) ≤ (n - magnitude (pos m)) + (magnitude (pos m) - n) =
    omega (arith, ints, one_side (pos n -ℤ pos m)) in
    omega (arith, e.nearest (pos n) (on_grid_as (omega arith) o))
nearest_by precision n (negsuc m) z o e =
    let h = e.nearest (neg_ℤ (pos n)) (neg_on_grid precision (pos n) (on_grid_as (omega arith) o)) in
    let d : magnitude (neg_ℤ (pos n) -ℤ negsuc m) ≤ (n - magnitude (negsuc m)) + (magnitude (negsuc m) - n) =
    omega (arith, ints, one_side (neg_ℤ (pos n) -ℤ negsuc m)) in
    omega (arith, h)

-- the error of a rounded sum is at most its first summand
pub error_le_first : (precision : ℕ) (a c z : ℤ) → IsGridNumber precision c → IsNearest precision (a +ℤ c) z
    → magnitude (z -ℤ (a +ℤ c)) ≤ magnitude a
error_le_first precision a c z g n =
    let e : magnitude (c -ℤ (a +ℤ c)) ≡ magnitude a = omega (arith, ints, one_side a, one_side (c -ℤ (a +ℤ c))) in
    omega (arith, n.nearest c g)

-- the error of a rounded sum is at most its second summand
pub error_le_second : (precision : ℕ) (a c z : ℤ) → IsGridNumber precision a → IsNearest precision (a +ℤ c) z
    → magnitude (z -ℤ (a +ℤ c)) ≤ magnitude c
error_le_second precision a c z g n =
    let e : magnitude (a -ℤ (a +ℤ c)) ≡ magnitude c = omega (arith, ints, one_side c, one_side (a -ℤ (a +ℤ c))) in
    omega (arith, n.nearest a g)

-- ---- the error relative to the number

-- an error is at most half a unit in the last place
at_least_place : (half m c n d : ℕ) → half ≤ m → m * 2 ^ c ≤ n → n < (m + 1) * 2 ^ c
    → d ≤ (m * 2 ^ c - n) + (n - m * 2 ^ c) → d ≤ ((m + 1) * 2 ^ c - n) + (n - (m + 1) * 2 ^ c) → 2 * half * d ≤ n
at_least_place half m c n d f l h x y =
    let a : 2 * d ≤ 2 ^ c = omega arith in
    let b : half * (2 * d) ≤ half * 2 ^ c = mul-le-mul_left half a in
    let e : half * 2 ^ c ≤ m * 2 ^ c = mul-le-mul_right (2 ^ c) f in
    omega arith

-- an error of at most half a unit in the last place is small relative to the number
relative_at : (precision half m c : ℕ) (x z : ℤ) → IsEnclosed precision half m c (magnitude x) 1
    → IsNearest precision x z → (c ≡ 0) ⊎ (half ≤ m) → 2 ^ precision * magnitude (z -ℤ x) ≤ magnitude x
relative_at precision half m c x z i n (inl q) =
    let e : 2 ^ c ≡ 1 = ap (λ (k : ℕ). 2 ^ k) q in
    let a : m * 2 ^ c ≡ m * 1 = ap (λ (k : ℕ). m * k) e in
    let l : m * 2 ^ c * 1 ≤ magnitude x = i.from in
    let h : magnitude x < (m + 1) * 2 ^ c * 1 = i.to in
    let f : m < 2 ^ precision = i.fits in
    let s : magnitude x ≡ m * 2 ^ c = omega arith in
    let w : z ≡ x = nearest_exact precision x z (on_grid_as (sym s) (multiple_on_grid precision m c f)) n in
    let v : magnitude (z -ℤ x) ≡ 0 = omega (arith, ints, one_side (z -ℤ x)) in
    let t : 2 ^ precision * magnitude (z -ℤ x) ≡ 2 ^ precision * 0 = ap (λ (k : ℕ). 2 ^ precision * k) v in
    omega arith
relative_at precision half m c x z i n (inr q) =
    let l : m * 2 ^ c * 1 ≤ magnitude x = i.from in
    let h : magnitude x < (m + 1) * 2 ^ c * 1 = i.to in
    let u = nearest_by precision (m * 2 ^ c) x z (multiple_on_grid precision m c i.fits) n in
    let v = nearest_by precision ((m + 1) * 2 ^ c) x z (next_on_grid precision half m c i.double i.fits) n in
    let w : 2 * half * magnitude (z -ℤ x) ≤ magnitude x =
    at_least_place half m c (magnitude x) (magnitude (z -ℤ x)) q (omega arith) (omega arith) u v in
    let t : 2 ^ precision * magnitude (z -ℤ x) ≡ 2 * half * magnitude (z -ℤ x) =
    ap (λ (k : ℕ). k * magnitude (z -ℤ x)) i.double in
    omega arith

-- the error is at most 2 ^ -precision of the number
pub relative_error : (precision : ℕ) (x z : ℤ) → 0 < precision → IsNearest precision x z
    → 2 ^ precision * magnitude (z -ℤ x) ≤ magnitude x
relative_error precision x z p n =
    let r = enclosed_at precision (2 ^ (precision - 1)) (magnitude x) 1 (lit< tt) (sym (twice_half precision p)) in
    relative_at precision (2 ^ (precision - 1)) (magnitude x / (1 * 2 ^ r.0)) r.0 x z r.1 n r.1.full

-- ---- the error of a sum is a grid number

module _ (precision : ℕ) (wide : 8 ≤ 2 ^ precision) where
  -- a multiple of 2 ^ k is rounded exactly, or is too long and rounds to a multiple of 2 ^ (k + 1)
  pub nearest_cases : (k : ℕ) (s z : ℤ) → IsMultiple (2 ^ k) (magnitude s) → IsNearest precision s z
      → (z ≡ s) ⊎ ((2 ^ precision * 2 ^ k ≤ magnitude s) × IsMultiple (2 ^ (k + 1)) (magnitude z))
  nearest_cases k s z x n =
      ⊎_elim
      (λ (h : magnitude s < 2 ^ precision * 2 ^ k).
      inl (nearest_exact precision s z (on_grid_from precision k (magnitude s) x h) n))
      (λ (h : 2 ^ precision * 2 ^ k ≤ magnitude s).
      let b : 2 ^ precision * 2 ^ k ≤ magnitude z =
      nearest_reaches precision (2 ^ precision * 2 ^ k) s z (bound_on_grid precision k (omega (arith, wide))) h n in
      ⊎_elim
      (λ (q : k < n.on_grid.place). inr (h, coarse_multiple precision (magnitude z) (k + 1) n.on_grid (omega arith)))
      (λ (q : n.on_grid.place ≤ k).
      let c : magnitude z < 2 ^ precision * 2 ^ k = grid_bound_at precision (magnitude z) k n.on_grid q in
      absurd (omega arith))
      (cases_lt k n.on_grid.place))
      (cases_lt (magnitude s) (2 ^ precision * 2 ^ k))

  -- the error of a multiple of 2 ^ k is such a multiple too, so a small error is a grid number
  pub error_at : (k : ℕ) (s z : ℤ) → IsMultiple (2 ^ k) (magnitude s) → IsNearest precision s z
      → magnitude (z -ℤ s) < 2 ^ precision * 2 ^ k → IsGridNumber precision (z -ℤ s)
  error_at k s z x n h =
      ⊎_elim
      (λ (e : z ≡ s). let v : magnitude (z -ℤ s) ≡ 0 = omega (arith, ints, one_side (z -ℤ s)) in
      on_grid_as (sym v) (zero_on_grid precision))
      (λ q. on_grid_from precision k (magnitude (z -ℤ s))
      (difference_multiple (2 ^ k) z s (pow_pos k) (finer_multiple k (magnitude z) q.1) x) h)
      (nearest_cases k s z x n)

  -- the error of the rounded sum of two grid numbers is a grid number
  pub error_on_grid : (a c z : ℤ) → IsGridNumber precision a → IsGridNumber precision c → IsNearest precision (a +ℤ c) z
      → IsGridNumber precision (z -ℤ (a +ℤ c))
  error_on_grid a c z g h n =
      let l = error_le_first precision a c z h n in
      let k = error_le_second precision a c z g n in
      let u = common precision a c g h in
      error_at u.place (a +ℤ c) z (sum_multiple (2 ^ u.place) a c (pow_pos u.place) u.first u.second) n
      (omega (arith, u.bound))
