-- The order of data: by exponents and significands, and by the side of 0 that they are on.
use Rattle.std.proofs.Common.{◌≡◌, ℕ, ◌+◌, ◌*◌, ◌^◌, ◌<◌, ◌≤◌, Bool, true, false, ℤ}
use Rattle.std.proofs.Common.{pos, ◌<ℤ◌, zero, suc, Some, sym, refl, ap, ◌∙◌, subst, arith}
use Rattle.std.proofs.lemmas.{Cmp.by_ranked, Int.ints, Nat.pow_pos}
use Rattle.std.proofs.Math.Nat.{mul-lt-mul_of_pos_right, lt_of_mul-lt-mul_right, pow-le-pow_right, two-pow-succ}
use Rattle.std.specs.{Prelude.neg_ℤ, Bool.Decides, declared.cmp.Ordering.Ordering}
use Rattle.std.specs.declared.cmp.Ordering.TheVariants.{Less, Equal, Greater}
use Rattle.std.specs.Ordering.{nat_cmp, int_cmp, ordering_then}
use Rattle.std.specs.Cmp.{nat_cmp_is, int_cmp_is, ranks, int_ranks}
use Rattle.apfloat_model.proofs.general.{Powers.two_pos, Choices.off_by}
use Rattle.apfloat_model.proofs.order.Categories.{same_is, same_of}
use Rattle.apfloat_model.specs.{arithmetic.Exact.signed, declared.kinds.Category.Category}
use Rattle.apfloat_model.specs.declared.kinds.Category.TheVariants.{Infinity, NaN, Normal, Zero}
use Rattle.apfloat_model.specs.formats.Datum.{Datum, finite, infinite, nan}
use Rattle.apfloat_model.specs.order.Classes.{is_nan, same_datum}
use Rattle.apfloat_model.specs.order.Order.{number, compared, compared_magnitudes}
use Rattle.apfloat_rounding.specs.declared.{shape.Shape.Shape, unpacked.Unpacked.Unpacked}
use Rattle.apfloat_rounding.specs.Stored.{IsNormal, IsNormalAt, IsStored, IsStoredBy, datum_at, datum_by, quanta_at}
use Rattle.apfloat_rounding.specs.Stored.{quanta_of, unpacked_of}
use Rattle.apfloat_rounding.proofs.StoredBack.{IsFull, top_of, full_low, full_high, normal_full, quanta_some}
use Rattle.apfloat_rounding.proofs.StoredBack.{comes_back}
use Rattle.apfloat_arithmetic.specs.Sides.{number_side, side}
use Rattle.apfloat_arithmetic.proofs.SumCases.{datum_is}

-- ---- two numbers with all their digits are ordered by their exponents first

-- a number whose first digit is at a lower place is less
below_top : (precision s n u d t m v e : ℕ) → IsFull precision s n u d → IsFull precision t m v e
    → top_of precision u d < top_of precision v e → n < m
below_top precision s n u d t m v e f g h =
    let a = full_high _ _ _ _ _ f in
    let b = full_low _ _ _ _ _ g in
    let c : 2 ^ suc (top_of precision u d) ≤ 2 ^ top_of precision v e = pow-le-pow_right two_pos h in
    omega (arith, a, b, c, two-pow-succ (top_of precision u d))

-- a number with a lower exponent is less
below_exponent : (shape : Shape) (s : ℕ) (d : ℤ) (t : ℕ) (e : ℤ) → IsNormalAt shape s d → IsNormalAt shape t e → d <ℤ e
    → quanta_at shape.min_exp s d < quanta_at shape.min_exp t e
below_exponent shape s d t e m n h =
    let f = normal_full shape s d m in
    let g = normal_full shape t e n in
    below_top _ _ _ _ _ _ _ _ _ f g (omega (arith, ints, h, f.short, g.short))

-- of two numbers with the same exponent, the one with the lesser significand is less
below_significand : (precision s n t m u d : ℕ) → IsFull precision s n u d → IsFull precision t m u d → s < t → n < m
below_significand precision s n t m u d f g h =
    let a : s * 2 ^ u < t * 2 ^ u = mul-lt-mul_of_pos_right h (pow_pos u) in
    let b = f.same in
    let c = g.same in
    let l : n * 2 ^ d < m * 2 ^ d = omega arith in
    lt_of_mul-lt-mul_right (2 ^ d) l

-- two numbers with the same exponent are ordered as their significands
at_one_exponent : (shape : Shape) (s t : ℕ) (e : ℤ) → IsNormalAt shape s e → IsNormalAt shape t e
    → nat_cmp s t ≡ nat_cmp (quanta_at shape.min_exp s e) (quanta_at shape.min_exp t e)
at_one_exponent shape s t e m n =
    let f = normal_full shape s e m in
    let g = normal_full shape t e n in
    by_ranked (s < t) (s ≡ t) (t < s) (nat_cmp s t) (ranks s t)
    (λ c h. c ∙ nat_cmp_is _ _ Less (below_significand _ _ _ _ _ _ _ f g h))
    (λ c h. c ∙ nat_cmp_is _ _ Equal (ap (λ x. quanta_at shape.min_exp x e) h))
    (λ c h. c ∙ nat_cmp_is _ _ Greater (below_significand _ _ _ _ _ _ _ g f h))

-- numbers are ordered by their exponents, and then by their significands
pub exponents_first : (shape : Shape) (s : ℕ) (d : ℤ) (t : ℕ) (e : ℤ) → IsNormalAt shape s d → IsNormalAt shape t e
    → ordering_then (int_cmp d e) (nat_cmp s t) ≡ nat_cmp (quanta_at shape.min_exp s d) (quanta_at shape.min_exp t e)
exponents_first shape s d t e m n =
    by_ranked (d <ℤ e) (d ≡ e) (e <ℤ d) (int_cmp d e) (int_ranks d e)
    (λ c h. ap (λ x. ordering_then x (nat_cmp s t)) c ∙ nat_cmp_is _ _ Less (below_exponent shape s d t e m n h))
    (λ c h.
    let k : IsNormalAt shape s e = rw h at m in
    ap (λ x. ordering_then x (nat_cmp s t)) c ∙ at_one_exponent shape s t e k n ∙
    ap (λ x. nat_cmp (quanta_at shape.min_exp s x) (quanta_at shape.min_exp t e)) (sym h))
    (λ c h. ap (λ x. ordering_then x (nat_cmp s t)) c ∙ nat_cmp_is _ _ Greater (below_exponent shape t e s d n m h))

-- ---- numbers of the same sign

-- numbers without a minus sign are ordered as their magnitudes
pub both_positive : (m n : ℕ) → nat_cmp m n ≡ int_cmp (pos m) (pos n)
both_positive m n =
    by_ranked (m < n) (m ≡ n) (n < m) (nat_cmp m n) (ranks m n)
    (λ e h. e ∙ int_cmp_is (pos m) (pos n) Less (omega (arith, ints, h)))
    (λ e h. e ∙ int_cmp_is (pos m) (pos n) Equal (ap pos h))
    (λ e h. e ∙ int_cmp_is (pos m) (pos n) Greater (omega (arith, ints, h)))

-- numbers with a minus sign are ordered opposite to their magnitudes
pub both_negative : (m n : ℕ) → nat_cmp n m ≡ int_cmp (neg_ℤ (pos m)) (neg_ℤ (pos n))
both_negative m n =
    by_ranked (n < m) (n ≡ m) (m < n) (nat_cmp n m) (ranks n m)
    (λ e h. e ∙ int_cmp_is (neg_ℤ (pos m)) (neg_ℤ (pos n)) Less (omega (arith, ints, h)))
    (λ e h. e ∙ int_cmp_is (neg_ℤ (pos m)) (neg_ℤ (pos n)) Equal (ap (λ x. neg_ℤ (pos x)) (sym h)))
    (λ e h. e ∙ int_cmp_is (neg_ℤ (pos m)) (neg_ℤ (pos n)) Greater (omega (arith, ints, h)))

-- ---- numbers of opposite signs

-- -m is less than n, unless both are 0
below_both : (m n : ℕ) → 0 < m + n → Less ≡ int_cmp (neg_ℤ (pos m)) (pos n)
below_both m n h = int_cmp_is (neg_ℤ (pos m)) (pos n) Less (omega (arith, ints, h))

-- m is greater than -n, unless both are 0
above_both : (m n : ℕ) → 0 < m + n → Greater ≡ int_cmp (pos m) (neg_ℤ (pos n))
above_both m n h = int_cmp_is (pos m) (neg_ℤ (pos n)) Greater (omega (arith, ints, h))

-- ---- the side of 0 that a value is on

-- a number other than 0 is on the side of its sign
some_side : (negative : Bool) (n : ℕ) → 0 < n → number_side negative ≡ side (finite negative n)
some_side b zero h = absurd (omega arith)
some_side b (suc n) h = refl

-- a stored number other than 0 is on the side of its sign
pub side_of_normal : (shape : Shape) (x : Unpacked) (negative : Bool) → x.category ≡ Normal → x.negative ≡ negative
    → IsStored shape x → number_side negative ≡ side (datum_at shape x)
side_of_normal shape x b e f h =
    let n : IsNormalAt shape x.significand x.exponent = rw e at h in
    rw (e, ← f) (some_side x.negative _ (quanta_some shape x.significand x.exponent n))

-- numbers on the same side of 0 have the same sign
one_sign : (left right : Bool) → number_side left ≡ number_side right → right ≡ left
one_sign true true e = refl
one_sign true false e = cc
one_sign false true e = cc
one_sign false false e = refl

-- the side of an infinity is not that of the numbers of either sign
near_end : (left right : Bool) → number_side left ≡ side (infinite right) → ⊥
near_end true true e = cc
near_end true false e = cc
near_end false true e = cc
near_end false false e = cc

-- a value on the side of the numbers of one sign has the category of a nonzero number, and that sign
number_beside : (category : Category) (shape : Shape) (y : Unpacked) (negative : Bool) → IsStoredBy category shape y
    → number_side negative ≡ side (datum_by category shape y) → (category ≡ Normal) × (y.negative ≡ negative)
number_beside Normal shape y b h e =
    let q = some_side y.negative _ (quanta_some shape y.significand y.exponent h) in
    (refl, one_sign b y.negative (e ∙ sym q))
number_beside Zero shape y true h e = cc
number_beside Zero shape y false h e = cc
number_beside Infinity shape y b h e = absurd (near_end b y.negative e)
number_beside NaN shape y true h e = cc
number_beside NaN shape y false h e = cc

-- a stored value on the side of the numbers of one sign is a nonzero number with that sign
beside_normal : (shape : Shape) (y : Unpacked) (negative : Bool) → IsStored shape y
    → number_side negative ≡ side (datum_at shape y) → (y.category ≡ Normal) × (y.negative ≡ negative)
beside_normal shape y b h e = number_beside y.category shape y b h e

-- a stored number and a value on its side of 0 are two numbers of its sign
pub beside_number : (negative : Bool) (shape : Shape) (x y : Unpacked)
    → x.category ≡ Normal → x.negative ≡ negative → IsStored shape x
    → IsStored shape y → side (datum_at shape x) ≡ side (datum_at shape y) → (IsNormal shape x) × (IsNormal shape y)
    × (int_cmp (signed negative (quanta_of shape x)) (signed negative (quanta_of shape y))
    ≡ int_cmp (number (datum_at shape x)) (number (datum_at shape y)))
beside_number b shape x y e f h k s =
    let p = beside_normal shape y b k (side_of_normal shape x b e f h ∙ s) in
    (rw e at h, rw p.0 at k, rw (e, f, p.0, p.1) refl)

-- ---- order by sides, and on one side by the numbers

-- two data are ordered by their sides of 0, and on the same side by their numbers
pub by_sides : (x y : Datum) (order : Ordering) → is_nan x ≡ false → is_nan y ≡ false
    → (side x ≡ side y → order ≡ int_cmp (number x) (number y))
    → Some (ordering_then (nat_cmp (side x) (side y)) order) ≡ compared x y
by_sides (nan a s) y r e f h = cc
by_sides (infinite a) (nan b t) r e f h = cc
by_sides (finite a m) (nan b t) r e f h = cc
by_sides (infinite true) (infinite true) r e f h = ap Some (h refl)
by_sides (infinite true) (infinite false) r e f h = refl
by_sides (infinite false) (infinite true) r e f h = refl
by_sides (infinite false) (infinite false) r e f h = ap Some (h refl)
by_sides (infinite true) (finite b zero) r e f h = refl
by_sides (infinite false) (finite b zero) r e f h = refl
by_sides (infinite true) (finite true (suc n)) r e f h = refl
by_sides (infinite false) (finite true (suc n)) r e f h = refl
by_sides (infinite true) (finite false (suc n)) r e f h = refl
by_sides (infinite false) (finite false (suc n)) r e f h = refl
by_sides (finite a zero) (infinite true) r e f h = refl
by_sides (finite a zero) (infinite false) r e f h = refl
by_sides (finite true (suc m)) (infinite true) r e f h = refl
by_sides (finite true (suc m)) (infinite false) r e f h = refl
by_sides (finite false (suc m)) (infinite true) r e f h = refl
by_sides (finite false (suc m)) (infinite false) r e f h = refl
by_sides (finite a zero) (finite b zero) r e f h = ap Some (h refl)
by_sides (finite true zero) (finite true (suc n)) r e f h = ap Some (above_both 0 (suc n) (omega arith))
by_sides (finite false zero) (finite true (suc n)) r e f h = ap Some (above_both 0 (suc n) (omega arith))
by_sides (finite true zero) (finite false (suc n)) r e f h = ap Some (below_both 0 (suc n) (omega arith))
by_sides (finite false zero) (finite false (suc n)) r e f h = ap Some (below_both 0 (suc n) (omega arith))
by_sides (finite true (suc m)) (finite true zero) r e f h = ap Some (below_both (suc m) 0 (omega arith))
by_sides (finite true (suc m)) (finite false zero) r e f h = ap Some (below_both (suc m) 0 (omega arith))
by_sides (finite false (suc m)) (finite true zero) r e f h = ap Some (above_both (suc m) 0 (omega arith))
by_sides (finite false (suc m)) (finite false zero) r e f h = ap Some (above_both (suc m) 0 (omega arith))
by_sides (finite true (suc m)) (finite true (suc n)) r e f h = ap Some (h refl)
by_sides (finite true (suc m)) (finite false (suc n)) r e f h = ap Some (below_both (suc m) (suc n) (omega arith))
by_sides (finite false (suc m)) (finite true (suc n)) r e f h = ap Some (above_both (suc m) (suc n) (omega arith))
by_sides (finite false (suc m)) (finite false (suc n)) r e f h = ap Some (h refl)

-- ---- equality of data

-- values with equal fields are equal
parts_same : (x y : Unpacked) → x.significand ≡ y.significand → x.exponent ≡ y.exponent → x.category ≡ y.category
    → x.negative ≡ y.negative → x ≡ y
parts_same x y a b c d = rw (sym a, sym b, sym c, sym d) refl

-- if `same_datum` holds of the data of two stored values, the values are equal
stored_same : (shape : Shape) (x y : Unpacked) → IsStored shape x → IsStored shape y
    → same_datum (datum_at shape x) (datum_at shape y) ≡ true → x ≡ y
stored_same shape x y h k e =
    sym (comes_back shape x h) ∙ ap (unpacked_of shape) {x = datum_at shape x} {y = datum_at shape y}
    (same_is (datum_at shape x) (datum_at shape y) e) ∙ comes_back shape y k

abbrev pub IsSameClass : Unpacked → Unpacked → Type 0
IsSameClass x y = (x.category ≡ y.category) × (x.negative ≡ y.negative)

abbrev pub IsSameNumber : Unpacked → Unpacked → Type 0
IsSameNumber x y = (x.significand ≡ y.significand) × (x.exponent ≡ y.exponent)

-- values of the same class are the same datum exactly if their significands and exponents are equal
pub same_both : (shape : Shape) (x y : Unpacked) (same_class same_number : Bool) → IsStored shape x → IsStored shape y
    → Decides same_class (IsSameClass x y) → Decides same_number (IsSameNumber x y) → same_class ≡ true
    → same_number ≡ same_datum (datum_at shape x) (datum_at shape y)
same_both shape x y a true h k c n e =
    let p = c.0 e in
    let q = n.0 refl in
    rw (parts_same x y q.0 q.1 p.0 p.1) (sym (same_of (datum_at shape y)))
same_both shape x y a false h k c n e = off_by _ (λ t.
    let z : false ≡ true =
    n.1 (
      ap (λ u. u.significand) (stored_same shape x y h k t),
      ap (λ u. u.exponent) (stored_same shape x y h k t),
    ) in
    cc)

-- values of different classes are different data
pub other_class : (shape : Shape) (x y : Unpacked) (same_class : Bool) → IsStored shape x → IsStored shape y
    → Decides same_class (IsSameClass x y) → same_class ≡ false
    → same_class ≡ same_datum (datum_at shape x) (datum_at shape y)
other_class shape x y a h k c e = e ∙ off_by _ (λ t.
    let z : a ≡ true =
    c.1 (
      ap (λ u. u.category) (stored_same shape x y h k t),
      ap (λ u. u.negative) (stored_same shape x y h k t),
    ) in
    cc)

-- ---- magnitudes of data

-- two stored nonzero numbers are ordered by magnitude as their numbers of quanta
pub magnitudes_compared : (shape : Shape) (x y : Unpacked) (order : Ordering) → x.category ≡ Normal
    → y.category ≡ Normal → IsStored shape x → IsStored shape y
    → (IsNormal shape x → IsNormal shape y → order ≡ nat_cmp (quanta_of shape x) (quanta_of shape y))
    → order ≡ compared_magnitudes (datum_at shape x) (datum_at shape y)
magnitudes_compared shape x y order x_normal y_normal x_stored y_stored h =
    let left = subst (λ (k : Category). IsStoredBy k shape x) x_normal x_stored in
    let right = subst (λ (k : Category). IsStoredBy k shape y) y_normal y_stored in
    rw (datum_is Normal shape x x_normal, datum_is Normal shape y y_normal) (h left right)
