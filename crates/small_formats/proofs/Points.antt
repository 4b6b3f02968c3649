-- The grid points of a precision, numbered in order: what is at a number, that the next number has the next point, and
-- that no two numbers have one point.
use Rattle.std.proofs.Common.{◌≡◌, ℕ, zero, suc, ◌+◌, ◌-◌, ◌*◌, ◌/◌, ◌%◌, ◌^◌, ◌<◌, ◌≤◌, ◌⊎◌, false, ltb, sym}
use Rattle.std.proofs.Common.{refl, ap, ◌∙◌, subst, inl, inr, ⊎_elim, arith}
use Rattle.std.proofs.Math.Nat.{mod-eq_of_lt, add-mul-mod_self_right, le-div_iff_mul-le}
use Rattle.std.proofs.lemmas.Bool.{cases_lt, lt-ltb, le-ltb}
use Rattle.std.proofs.lemmas.Nat.{pow_pos, div-mul-add, div-add-mod', mod_below}
use Rattle.apfloat_model.specs.rounding.Grid.{IsOnGrid}
use Rattle.apfloat_model.proofs.general.Powers.{twice_half}
use Rattle.apfloat_model.proofs.rounding.Neighbours.{carried, multiple_on_grid}
use Rattle.small_formats.specs.Codes.{point, index_of}

-- ---- what is at a number

-- with t below h, t + k * h is k times h and the rest t
parts_of : (h t k : ℕ) → t < h → ((t + k * h) / h ≡ k) × ((t + k * h) % h ≡ t)
parts_of h t k l =
    let swapped : t + k * h ≡ k * h + t = omega arith in (
      ap (λ (x : ℕ). x / h) swapped ∙ div-mul-add k h t l,
      add-mul-mod_self_right t k h ∙ mod-eq_of_lt l,
    )

pub low_point : (p i : ℕ) → i < 2 ^ (p - 1) → point p i ≡ i
low_point p i l = rw (lt-ltb i (2 ^ (p - 1)) l) refl

-- the point with all digits whose significand has the digits t below its integer bit, at the place c
pub high_point : (p t c : ℕ) → t < 2 ^ (p - 1) → point p (t + (c + 1) * 2 ^ (p - 1)) ≡ (2 ^ (p - 1) + t) * 2 ^ c
high_point p t c l =
    let h : ℕ = 2 ^ (p - 1) in
    let i : ℕ = t + (c + 1) * h in
    let test : ltb i h ≡ false = le-ltb i h (omega arith) in
    let parts = parts_of h t (c + 1) l in
    let back : c + 1 - 1 ≡ c = omega arith in
    rw (test, parts.0, parts.1) (ap (λ (x : ℕ). (h + t) * 2 ^ x) back)

-- the point with the number of a significand at a place is that significand at that place
pub at_index : (p m c : ℕ) → 0 < p → m < 2 ^ p → (c ≡ 0) ⊎ (2 ^ (p - 1) ≤ m) → point p (index_of p m c) ≡ m * 2 ^ c
at_index p m c some fits full =
    let h : ℕ = 2 ^ (p - 1) in
    let double : 2 * h ≡ 2 ^ p = twice_half p some in
    ⊎_elim
    (λ (l : m < h).
    let z : c ≡ 0 = ⊎_elim (λ (q : c ≡ 0). q) (λ (q : h ≤ m). absurd (omega (arith, q, l))) full in
    let e : m + c * h ≡ m = ap (λ (x : ℕ). m + x * h) z ∙ omega arith in
    let v : m ≡ m * 2 ^ c = sym (ap (λ (x : ℕ). m * 2 ^ x) z ∙ omega arith) in
    ap (λ (x : ℕ). point p x) e ∙ low_point p m l ∙ v)
    (λ (l : h ≤ m).
    let t : ℕ = m - h in
    let whole : h + t ≡ m = omega (arith, l) in
    let e : m + c * h ≡ t + (c + 1) * h = omega (arith, whole) in
    ap (λ (x : ℕ). point p x) e ∙ high_point p t c (omega (arith, whole, double, fits))
    ∙ ap (λ (x : ℕ). x * 2 ^ c) whole)
    (cases_lt m h)

-- the next number has the next multiple at that place, past a power of two too
pub at_next : (p m c : ℕ) → 0 < p → m < 2 ^ p → (c ≡ 0) ⊎ (2 ^ (p - 1) ≤ m)
    → point p (index_of p m c + 1) ≡ (m + 1) * 2 ^ c
at_next p m c some fits full =
    let h : ℕ = 2 ^ (p - 1) in
    let double : 2 * h ≡ 2 ^ p = twice_half p some in
    ⊎_elim
    (λ (l : m + 1 < 2 ^ p).
    let e : m + c * h + 1 ≡ m + 1 + c * h = omega arith in
    let full' : (c ≡ 0) ⊎ (h ≤ m + 1) = ⊎_elim (λ (q : c ≡ 0). inl q) (λ (q : h ≤ m). inr (omega (arith, q))) full in
    ap (λ (x : ℕ). point p x) e ∙ at_index p (m + 1) c some l full')
    (λ (l : 2 ^ p ≤ m + 1).
    let top : m + 1 ≡ 2 * h = omega (arith, l, fits, double) in
    let e : m + c * h + 1 ≡ h + (c + 1) * h = omega (arith, top) in
    let short : h < 2 ^ p = let q = pow_pos (p - 1) in omega (arith, double, q) in
    ap (λ (x : ℕ). point p x) e ∙ at_index p h (c + 1) some short (inr (omega arith)) ∙ sym (carried h c)
    ∙ sym (ap (λ (x : ℕ). x * 2 ^ c) top))
    (cases_lt (m + 1) (2 ^ p))

-- each number is that of a significand at a place
pub record HasForm (p i : ℕ) : Type 0 where
  pub m : ℕ
  pub c : ℕ
  pub fits : m < 2 ^ p
  pub full : (c ≡ 0) ⊎ (2 ^ (p - 1) ≤ m)
  pub is : i ≡ index_of p m c

pub form_of : (p i : ℕ) → 0 < p → HasForm p i
form_of p i some =
    let h : ℕ = 2 ^ (p - 1) in
    let positive : 0 < h = pow_pos (p - 1) in
    let double : 2 * h ≡ 2 ^ p = twice_half p some in
    ⊎_elim
    (λ (l : i < h). record { m = i; c = 0; fits = omega (arith, l, double); full = inl refl; is = omega arith })
    (λ (l : h ≤ i).
    let k : ℕ = i / h in
    let t : ℕ = i % h in
    let sum : k * h + t ≡ i = div-add-mod' i h in
    let below : t < h = mod_below i h positive in
    let one : 1 ≤ k = (le-div_iff_mul-le positive).1 (omega (arith, l)) in
    let d : ℕ = k - 1 in
    let next : k ≡ d + 1 = omega (arith, one) in
    let times : k * h ≡ (d + 1) * h = ap (λ (x : ℕ). x * h) next in
    record {
      m = h + t;
      c = d;
      fits = omega (arith, below, double);
      full = inr (omega arith);
      is = omega (arith, sum, times);
    })
    (cases_lt i h)

pub point_on_grid : (p i : ℕ) → 0 < p → IsOnGrid p (point p i)
point_on_grid p i some =
    let f = form_of p i some in
    let e : point p i ≡ f.m * 2 ^ f.c = ap (λ (x : ℕ). point p x) f.is ∙ at_index p f.m f.c some f.fits f.full in
    subst (λ (x : ℕ). IsOnGrid p x) (sym e) (multiple_on_grid p f.m f.c f.fits)

-- ---- their order

pub increasing : (p i : ℕ) → 0 < p → point p i < point p (i + 1)
increasing p i some =
    let f = form_of p i some in
    let low : point p i ≡ f.m * 2 ^ f.c = ap (λ (x : ℕ). point p x) f.is ∙ at_index p f.m f.c some f.fits f.full in
    let high : point p (i + 1) ≡ (f.m + 1) * 2 ^ f.c =
    ap (λ (x : ℕ). point p (x + 1)) f.is ∙ at_next p f.m f.c some f.fits f.full in
    let unit : 0 < 2 ^ f.c = pow_pos f.c in
    omega (arith, low, high, unit)

rises : (p i d : ℕ) → 0 < p → point p i < point p (i + (d + 1))
rises p i zero some =
    let e : i + (0 + 1) ≡ i + 1 = omega arith in
    subst (λ (x : ℕ). point p i < point p x) (sym e) (increasing p i some)
rises p i (suc d) some =
    let step = increasing p (i + (d + 1)) some in
    let e : i + (suc d + 1) ≡ i + (d + 1) + 1 = omega arith in
    subst (λ (x : ℕ). point p i < point p x) (sym e) (omega (arith, rises p i d some, step))

pub points_in_order : (p i j : ℕ) → 0 < p → i < j → point p i < point p j
points_in_order p i j some l =
    let e : i + (j - i - 1 + 1) ≡ j = omega (arith, l) in
    subst (λ (x : ℕ). point p i < point p x) e (rises p i (j - i - 1) some)

pub one_number : (p i j : ℕ) → 0 < p → point p i ≡ point p j → i ≡ j
one_number p i j some e =
    ⊎_elim
    (λ (l : i < j). let q = points_in_order p i j some l in absurd (omega (arith, q, e)))
    (λ (l : j ≤ i).
    ⊎_elim
    (λ (k : j < i). let q = points_in_order p j i some k in absurd (omega (arith, q, e)))
    (λ (k : i ≤ j). omega (arith, l, k))
    (cases_lt j i))
    (cases_lt i j)
