-- Codes are in the order of the numbers that they mean.
use Rattle.std.proofs.Common.{◌≡◌, ℕ, zero, suc, ◌+◌, ◌-◌, ◌<◌, ◌≤◌, Bool, true, false, ap}
use Rattle.std.proofs.Common.{◌∙◌, arith, eqb, sym, ℤ, pos, neg_ℤ}
use Rattle.std.proofs.lemmas.{Bool.eq-eqb, Bool.ne_eqb, Int.ints, Nat.pow_pos}
use Rattle.std.specs.Prelude.{◌<ℤ◌}
use Rattle.std.specs.declared.cmp.Ordering.{Ordering, TheVariants.Less, TheVariants.Equal, TheVariants.Greater}
use Rattle.std.specs.{Ordering.int_cmp, Ordering.MatchOrdering, Cmp.int_cmp_is, Cmp.int_ranks}
use Rattle.apfloat_model.specs.arithmetic.Exact.{signed}
use Rattle.small_formats.specs.Codes.{point}
use Rattle.small_formats.proofs.Points.{increasing, low_point, points_in_order}

-- two pairs of integers in the same order
same_order : (x y z w : ℤ) → (x <ℤ y → z <ℤ w) → (x ≡ y → z ≡ w) → (y <ℤ x → w <ℤ z) → int_cmp x y ≡ int_cmp z w
same_order x y z w less equal greater = ranked (int_cmp x y) (int_ranks x y)
  where
    ranked : (r : Ordering) → MatchOrdering r (x <ℤ y) (x ≡ y) (y <ℤ x) → r ≡ int_cmp z w
    ranked Less h = int_cmp_is z w Less (less h)
    ranked Equal h = int_cmp_is z w Equal (equal h)
    ranked Greater h = int_cmp_is z w Greater (greater h)

-- ---- points

pub zero_point : (p : ℕ) → point p 0 ≡ 0
zero_point p = low_point p 0 (pow_pos (p - 1))

pub not_below_number : (p i : ℕ) → 0 < p → i ≤ point p i
not_below_number p zero some = omega arith
not_below_number p (suc i) some =
    let e : i + 1 ≡ suc i = omega arith in
    let next : point p (i + 1) ≡ point p (suc i) = ap (λ (n : ℕ). point p n) e in
    omega (arith, not_below_number p i some, increasing p i some, next)

-- only the first point is 0
pub zero_code : (p i : ℕ) → 0 < p → eqb i 0 ≡ eqb (point p i) 0
zero_code p zero some = sym (eq-eqb (point p 0) 0 (zero_point p))
zero_code p (suc i) some =
    let least = not_below_number p (suc i) some in
    ne_eqb (suc i) 0 (λ e. omega (arith, e)) ∙ sym (ne_eqb (point p (suc i)) 0 (λ e. omega (arith, e, least)))

-- what is known of two points
record AreOrdered (i j a b : ℕ) : Type 0 where
  less : i < j → a < b
  equal : i ≡ j → a ≡ b
  greater : j < i → b < a
  left : i ≤ a
  right : j ≤ b
  zero_left : i ≡ 0 → a ≡ 0
  zero_right : j ≡ 0 → b ≡ 0

ordered_points : (p i j : ℕ) → 0 < p → AreOrdered i j (point p i) (point p j)
ordered_points p i j some = record {
  less = λ l. points_in_order p i j some l;
  equal = λ e. ap (λ (n : ℕ). point p n) e;
  greater = λ l. points_in_order p j i some l;
  left = not_below_number p i some;
  right = not_below_number p j some;
  zero_left = λ e. ap (λ (n : ℕ). point p n) e ∙ zero_point p;
  zero_right = λ e. ap (λ (n : ℕ). point p n) e ∙ zero_point p;
}

signed_order : (b d : Bool) (i j x y : ℕ) → AreOrdered i j x y
    → int_cmp (signed b i) (signed d j) ≡ int_cmp (signed b x) (signed d y)
signed_order false false i j x y o =
    same_order (pos i) (pos j) (pos x) (pos y)
    (λ h. let l = o.less (omega (arith, ints, h)) in omega (arith, ints, l))
    (λ h. ap (λ (n : ℕ). pos n) (o.equal (omega (arith, ints, h))))
    (λ h. let l = o.greater (omega (arith, ints, h)) in omega (arith, ints, l))
signed_order true true i j x y o =
    same_order (neg_ℤ (pos i)) (neg_ℤ (pos j)) (neg_ℤ (pos x)) (neg_ℤ (pos y))
    (λ h. let l = o.greater (omega (arith, ints, h)) in omega (arith, ints, l))
    (λ h. ap (λ (n : ℕ). neg_ℤ (pos n)) (o.equal (omega (arith, ints, h))))
    (λ h. let l = o.less (omega (arith, ints, h)) in omega (arith, ints, l))
signed_order true false i j x y o =
    same_order (neg_ℤ (pos i)) (pos j) (neg_ℤ (pos x)) (pos y)
    (λ h. let l = o.left in let k = o.right in omega (arith, ints, h, l, k))
    (λ h.
    let e = o.zero_left (omega (arith, ints, h)) in
    let f = o.zero_right (omega (arith, ints, h)) in
    omega (arith, ints, e, f))
    (λ h. absurd (omega (arith, ints, h)))
signed_order false true i j x y o =
    same_order (pos i) (neg_ℤ (pos j)) (pos x) (neg_ℤ (pos y))
    (λ h. absurd (omega (arith, ints, h)))
    (λ h.
    let e = o.zero_left (omega (arith, ints, h)) in
    let f = o.zero_right (omega (arith, ints, h)) in
    omega (arith, ints, e, f))
    (λ h. let l = o.left in let k = o.right in omega (arith, ints, h, l, k))

pub compared_points : (p i j : ℕ) (b d : Bool) → 0 < p
    → int_cmp (signed b i) (signed d j) ≡ int_cmp (signed b (point p i)) (signed d (point p j))
compared_points p i j b d some = signed_order b d i j (point p i) (point p j) (ordered_points p i j some)
