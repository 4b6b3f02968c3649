-- Integers with a sign: magnitudes, multiples and grid points.
use Rattle.std.proofs.Common.{◌≡◌, ℕ, suc, ◌+◌, ◌-◌, ◌*◌, ◌^◌, ◌<◌, ◌≤◌, ◌⊎◌, sym, ap, ◌∙◌, subst, inl, inr, ⊎_elim}
use Rattle.std.proofs.{Common.arith, Math.Nat.mul-le-mul_left, Math.Nat.mul-lt-mul_of_pos_right}
use Rattle.std.proofs.Math.Nat.{lt_of_mul-lt-mul_right, le_of_mul-le-mul_right, pow-le-pow_right}
use Rattle.std.proofs.lemmas.{Nat.pow-add, Nat.pow_pos, Bool.cases_lt, Int.ints}
use Rattle.std.specs.Prelude.{ℤ, pos, negsuc, ◌+ℤ◌, ◌-ℤ◌, neg_ℤ}
use Rattle.apfloat_model.specs.{rounding.Grid.IsOnGrid, arithmetic.Exact.magnitude}
use Rattle.apfloat_model.proofs.{general.Powers.two_pos, arithmetic.Signs.one_side}

-- a number whose magnitude is on the grid
abbrev pub IsGridNumber : ℕ → ℤ → Type 0
IsGridNumber precision z = IsOnGrid precision (magnitude z)

-- a number equal to a grid number is a grid number
pub on_grid_as : {precision m n : ℕ} → m ≡ n → IsOnGrid precision m → IsOnGrid precision n
on_grid_as {precision} e g = subst (λ (i : ℕ). IsOnGrid precision i) e g

-- the magnitude of a sum is the sum or the difference of the magnitudes
pub sum_cases : (a b : ℤ) → (magnitude (a +ℤ b) ≡ magnitude a + magnitude b)
    ⊎ ((magnitude a ≡ magnitude b + magnitude (a +ℤ b)) ⊎ (magnitude b ≡ magnitude a + magnitude (a +ℤ b)))
sum_cases (pos m) (pos n) = inl (omega (arith, ints))
sum_cases (negsuc m) (negsuc n) = inl (omega (arith, ints))
sum_cases (pos m) (negsuc n) =
    ⊎_elim (λ (h : m < suc n). inr (inr (omega (arith, ints, one_side (pos m +ℤ negsuc n)))))
    (λ (h : suc n ≤ m). inr (inl (omega (arith, ints, one_side (pos m +ℤ negsuc n))))) (cases_lt m (suc n))
sum_cases (negsuc m) (pos n) =
    ⊎_elim (λ (h : n < suc m). inr (inl (omega (arith, ints, one_side (negsuc m +ℤ pos n)))))
    (λ (h : suc m ≤ n). inr (inr (omega (arith, ints, one_side (negsuc m +ℤ pos n))))) (cases_lt n (suc m))

-- a number and its negation have the same magnitude
pub magnitude-neg : (a : ℤ) → magnitude (neg_ℤ a) ≡ magnitude a
magnitude-neg a = omega (arith, ints, one_side a, one_side (neg_ℤ a))

-- the two differences of two numbers have the same magnitude
pub magnitude-sub : (a b : ℤ) → magnitude (a -ℤ b) ≡ magnitude (b -ℤ a)
magnitude-sub a b = omega (arith, ints, one_side (b -ℤ a), one_side (a -ℤ b))

-- the magnitude of a sum is at most the sum of the magnitudes
pub magnitude_le : (a b : ℤ) → magnitude (a +ℤ b) ≤ magnitude a + magnitude b
magnitude_le a b = omega (arith, ints, one_side a, one_side b, one_side (a +ℤ b))

-- the magnitude of z is at most that of x plus that of z - x
pub grown : (x z : ℤ) → magnitude z ≤ magnitude x + magnitude (z -ℤ x)
grown x z = omega (arith, ints, one_side z, one_side x, one_side (z -ℤ x))

-- a summand is at most the sum plus the other summand
pub first_most : (x y : ℤ) → magnitude x ≤ magnitude (x +ℤ y) + magnitude y
first_most x y = omega (arith, ints, one_side x, one_side y, one_side (x +ℤ y))

-- ---- multiples

-- a multiple of a unit
pub record IsMultiple (unit number : ℕ) : Type 0 where
  pub times : ℕ
  pub is : number ≡ times * unit

-- the difference of two multiples is the difference of their factors times the unit
rest_is : (u p q r d : ℕ) → p ≡ q + r → p * u ≡ q * u + d → d ≡ r * u
rest_is u p q r d e h = let k : p * u ≡ (q + r) * u = ap (λ (x : ℕ). x * u) e in omega arith

-- the difference of two multiples is a multiple
less_multiple : (u m n d : ℕ) → 0 < u → IsMultiple u m → IsMultiple u n → m ≡ n + d → IsMultiple u d
less_multiple u m n d p x y e =
    let a : m ≡ x.times * u = x.is in
    let b : n ≡ y.times * u = y.is in
    let l : y.times * u ≤ x.times * u = omega arith in
    let k : y.times ≤ x.times = le_of_mul-le-mul_right l p in
    record {
      times = x.times - y.times;
      is = rest_is u x.times y.times (x.times - y.times) d (omega arith) (omega arith);
    }

-- the sum of two multiples is a multiple
more_multiple : (u m n d : ℕ) → IsMultiple u m → IsMultiple u n → d ≡ m + n → IsMultiple u d
more_multiple u m n d x y e =
    let a : m ≡ x.times * u = x.is in
    let b : n ≡ y.times * u = y.is in
    record { times = x.times + y.times; is = omega arith }

-- sums and differences of multiples
pub sum_multiple : (u : ℕ) (a b : ℤ) → 0 < u → IsMultiple u (magnitude a) → IsMultiple u (magnitude b)
    → IsMultiple u (magnitude (a +ℤ b))
sum_multiple u a b p x y =
    ⊎_elim
    (λ e. more_multiple u (magnitude a) (magnitude b) (magnitude (a +ℤ b)) x y e)
    (λ h. ⊎_elim
    (λ e. less_multiple u (magnitude a) (magnitude b) (magnitude (a +ℤ b)) p x y e)
    (λ e. less_multiple u (magnitude b) (magnitude a) (magnitude (a +ℤ b)) p y x e) h)
    (sum_cases a b)

pub neg_multiple : (u : ℕ) (a : ℤ) → IsMultiple u (magnitude a) → IsMultiple u (magnitude (neg_ℤ a))
neg_multiple u a x = subst (λ (n : ℕ). IsMultiple u n) (sym (magnitude-neg a)) x

-- the difference of two integers that are multiples is a multiple
pub difference_multiple : (u : ℕ) (a b : ℤ) → 0 < u → IsMultiple u (magnitude a) → IsMultiple u (magnitude b)
    → IsMultiple u (magnitude (a -ℤ b))
difference_multiple u a b p x y =
    let e : a +ℤ neg_ℤ b ≡ a -ℤ b = omega (arith, ints) in
    subst (λ (z : ℤ). IsMultiple u (magnitude z)) e (sum_multiple u a (neg_ℤ b) p x (neg_multiple u b y))

-- a multiple of a power of two is a multiple of the next lower power
pub finer_multiple : (k n : ℕ) → IsMultiple (2 ^ (k + 1)) n → IsMultiple (2 ^ k) n
finer_multiple k n x =
    let e : 2 ^ (k + 1) ≡ 2 ^ k * 2 = pow-add 2 k 1 in
    let a : n ≡ x.times * 2 ^ (k + 1) = x.is in
    let b : x.times * 2 ^ (k + 1) ≡ x.times * (2 ^ k * 2) = ap (λ (y : ℕ). x.times * y) e in
    record { times = x.times * 2; is = omega arith }

-- ---- grid points

-- a grid number is a multiple of its unit, and of any finer unit
pub coarse_multiple : (precision n k : ℕ) (grid : IsOnGrid precision n) → k ≤ grid.place → IsMultiple (2 ^ k) n
coarse_multiple precision n k grid h =
    let e : grid.place ≡ (grid.place - k) + k = omega arith in
    let w : 2 ^ grid.place ≡ 2 ^ (grid.place - k) * 2 ^ k = ap (λ (x : ℕ). 2 ^ x) e ∙ pow-add 2 (grid.place - k) k in
    let a : n ≡ grid.significand * 2 ^ grid.place = grid.is in
    let b : grid.significand * 2 ^ grid.place ≡ grid.significand * (2 ^ (grid.place - k) * 2 ^ k) =
    ap (λ (x : ℕ). grid.significand * x) w in
    record { times = grid.significand * 2 ^ (grid.place - k); is = omega arith }

-- a grid number has at most `precision` digits in its unit
pub grid_bound : (precision n : ℕ) (grid : IsOnGrid precision n) → n < 2 ^ precision * 2 ^ grid.place
grid_bound precision n grid =
    let h : grid.significand * 2 ^ grid.place < 2 ^ precision * 2 ^ grid.place =
    mul-lt-mul_of_pos_right grid.fits (pow_pos grid.place) in
    let a : n ≡ grid.significand * 2 ^ grid.place = grid.is in
    omega arith

-- a grid number is below the power of two past its digits, at its place or a higher one
pub grid_bound_at : (precision n k : ℕ) (grid : IsOnGrid precision n) → grid.place ≤ k → n < 2 ^ precision * 2 ^ k
grid_bound_at precision n k grid h =
    let a : n < 2 ^ precision * 2 ^ grid.place = grid_bound precision n grid in
    let b : 2 ^ grid.place ≤ 2 ^ k = pow-le-pow_right two_pos h in
    let c : 2 ^ precision * 2 ^ grid.place ≤ 2 ^ precision * 2 ^ k = mul-le-mul_left (2 ^ precision) b in
    omega arith

-- a multiple with at most `precision` digits is a grid number
pub on_grid_from : (precision k n : ℕ) → IsMultiple (2 ^ k) n → n < 2 ^ precision * 2 ^ k → IsOnGrid precision n
on_grid_from precision k n x h =
    let a : n ≡ x.times * 2 ^ k = x.is in
    let l : x.times * 2 ^ k < 2 ^ precision * 2 ^ k = omega arith in
    record { significand = x.times; place = k; fits = lt_of_mul-lt-mul_right (2 ^ k) l; is = a }

-- the power of two past the digits at a place is a grid number
pub bound_on_grid : (precision k : ℕ) → 1 < 2 ^ precision → IsOnGrid precision (2 ^ precision * 2 ^ k)
bound_on_grid precision k h =
    let e : 2 ^ (precision + k) ≡ 2 ^ precision * 2 ^ k = pow-add 2 precision k in
    record { significand = 1; place = precision + k; fits = h; is = omega arith }

pub neg_on_grid : (precision : ℕ) (a : ℤ) → IsGridNumber precision a → IsGridNumber precision (neg_ℤ a)
neg_on_grid precision a x = on_grid_as (sym (magnitude-neg a)) x

-- two numbers are multiples of one power of two, in which one of them has at most `precision` digits
pub record IsCommon (precision : ℕ) (a c : ℤ) : Type 0 where
  pub place : ℕ
  pub first : IsMultiple (2 ^ place) (magnitude a)
  pub second : IsMultiple (2 ^ place) (magnitude c)
  pub bound : (magnitude a < 2 ^ precision * 2 ^ place) ⊎ (magnitude c < 2 ^ precision * 2 ^ place)

-- any two grid numbers have such a power of two
pub common : (precision : ℕ) (a c : ℤ) → IsGridNumber precision a → IsGridNumber precision c → IsCommon precision a c
common precision a c g h =
    ⊎_elim
    (λ (q : g.place < h.place).
    record {
      place = g.place;
      first = coarse_multiple precision _ _ g (omega arith);
      second = coarse_multiple precision _ g.place h
          (omega arith);
      bound = inl (grid_bound precision _ g);
    })
    (λ (q : h.place ≤ g.place).
    record {
      place = h.place;
      first = coarse_multiple precision _ h.place g q;
      second = coarse_multiple precision _ _ h
          (omega arith);
      bound = inr (grid_bound precision _ h);
    })
    (cases_lt g.place h.place)

-- a sum of two grid numbers that is above neither of them is a grid number
pub cancelled : (precision : ℕ) (x y : ℤ) → IsGridNumber precision x → IsGridNumber precision y
    → magnitude (x +ℤ y) ≤ magnitude x → magnitude (x +ℤ y) ≤ magnitude y → IsGridNumber precision (x +ℤ y)
cancelled precision x y g h l k =
    let u = common precision x y g h in
    on_grid_from precision u.place _ (sum_multiple (2 ^ u.place) x y (pow_pos u.place) u.first u.second)
    (omega (arith, u.bound))
