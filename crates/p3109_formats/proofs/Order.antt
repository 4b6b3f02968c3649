-- The order of values of P3109 is that of their codes without a sign, with the sign of the number: an infinity has the
-- code past that of the largest number.
use Rattle.std.proofs.Common.{◌≡◌, ℕ, ◌+◌, ◌^◌, ◌<◌, ◌≤◌, Bool, true, false, cond, eqb, ltb}
use Rattle.std.proofs.Common.{⊎_elim, sym, refl, ap, ◌∙◌, arith, pos, neg_ℤ, int_cmp, Some, None}
use Rattle.std.proofs.lemmas.{Bool.cases_lt, Bool.false≢true, Bool.lt-ltb, Bool.ltb-true, Int.ints}
use Rattle.std.specs.declared.cmp.Ordering.{Ordering, TheVariants.Less, TheVariants.Equal, TheVariants.Greater}
use Rattle.std.specs.Cmp.{int_cmp_is}
use Rattle.apfloat_model.specs.{arithmetic.Exact.signed, formats.Datum.Datum, formats.Datum.finite}
use Rattle.apfloat_model.specs.{formats.Datum.infinite, formats.Datum.nan, order.Order.compared}
use Rattle.small_formats.specs.Codes.{point}
use Rattle.small_formats.proofs.CodesCompared.{compared_points}
use Rattle.p3109_formats.specs.declared.descriptor.Descriptor.{Descriptor}
use Rattle.p3109_formats.specs.Projections.{IsProjection, largest_index, magnitude_of, nan_code}
use Rattle.p3109_formats.proofs.OneAnswer.{datum_by, infinity_index}

-- the indices of two values that are not NaNs: at most `most`, or the next one if the value is an infinity
pub record IsAt (most index : ℕ) (past : Bool) : Type 0 where
  pub number : past ≡ false → index ≤ most
  pub infinity : past ≡ true → index ≡ most + 1

pub at_most_past : (c : Descriptor) (code : ℕ) → IsProjection c → code < 2 ^ c.bits → eqb code (nan_code c) ≡ false
    → IsAt (largest_index c) (magnitude_of c code) (ltb (largest_index c) (magnitude_of c code))
at_most_past c code law l other = record {
  number = λ e. ⊎_elim
      (λ (k : largest_index c < magnitude_of c code).
      absurd (false≢true (sym e ∙ lt-ltb (largest_index c) (magnitude_of c code) k)))
      (λ (k : magnitude_of c code ≤ largest_index c). k) (cases_lt (largest_index c) (magnitude_of c code));
  infinity = λ e. infinity_index c code law l other (ltb-true _ _ e);
}

-- both infinite: only the signs decide, and the indices are equal
infinities : (b d : Bool) (i : ℕ) → 0 < i
    → compared (infinite b) (infinite d) ≡ Some (int_cmp (signed b i) (signed d i))
infinities true true i l = ap (λ (r : Ordering). Some r) (int_cmp_is (neg_ℤ (pos i)) (neg_ℤ (pos i)) Equal refl)
infinities false false i l = ap (λ (r : Ordering). Some r) (int_cmp_is (pos i) (pos i) Equal refl)
infinities true false i l =
    ap (λ (r : Ordering). Some r) (int_cmp_is (neg_ℤ (pos i)) (pos i) Less (omega (arith, ints, l)))
infinities false true i l =
    ap (λ (r : Ordering). Some r) (int_cmp_is (pos i) (neg_ℤ (pos i)) Greater (omega (arith, ints, l)))

-- an index that is greater than the other one is on the side of its sign
farther : (b d : Bool) (i j : ℕ) → j < i → int_cmp (signed b i) (signed d j) ≡ cond b Less Greater
farther true true i j l = sym (int_cmp_is (neg_ℤ (pos i)) (neg_ℤ (pos j)) Less (omega (arith, ints, l)))
farther true false i j l = sym (int_cmp_is (neg_ℤ (pos i)) (pos j) Less (omega (arith, ints, l)))
farther false true i j l = sym (int_cmp_is (pos i) (neg_ℤ (pos j)) Greater (omega (arith, ints, l)))
farther false false i j l = sym (int_cmp_is (pos i) (pos j) Greater (omega (arith, ints, l)))

nearer : (b d : Bool) (i j : ℕ) → i < j → int_cmp (signed b i) (signed d j) ≡ cond d Greater Less
nearer true true i j l = sym (int_cmp_is (neg_ℤ (pos i)) (neg_ℤ (pos j)) Greater (omega (arith, ints, l)))
nearer true false i j l = sym (int_cmp_is (neg_ℤ (pos i)) (pos j) Less (omega (arith, ints, l)))
nearer false true i j l = sym (int_cmp_is (pos i) (neg_ℤ (pos j)) Greater (omega (arith, ints, l)))
nearer false false i j l = sym (int_cmp_is (pos i) (pos j) Less (omega (arith, ints, l)))

-- an infinity and a number: the infinity has the greater index
infinity_number : (b d : Bool) (i j n : ℕ) → j < i
    → compared (infinite b) (finite d n) ≡ Some (int_cmp (signed b i) (signed d j))
infinity_number true d i j n l = ap (λ (r : Ordering). Some r) (sym (farther true d i j l))
infinity_number false d i j n l = ap (λ (r : Ordering). Some r) (sym (farther false d i j l))

number_infinity : (b d : Bool) (i j n : ℕ) → i < j
    → compared (finite b n) (infinite d) ≡ Some (int_cmp (signed b i) (signed d j))
number_infinity b true i j n l = ap (λ (r : Ordering). Some r) (sym (nearer b true i j l))
number_infinity b false i j n l = ap (λ (r : Ordering). Some r) (sym (nearer b false i j l))

pub known_order : (p most i j : ℕ) (past also b d : Bool) → 0 < p → IsAt most i past → IsAt most j also
    → compared (datum_by false past b (point p i)) (datum_by false also d (point p j))
    ≡ Some (int_cmp (signed b i) (signed d j))
known_order p most i j true true b d some x y =
    let e = x.infinity refl in
    let k = y.infinity refl in
    let same : j ≡ i = omega (arith, e, k) in
    infinities b d i (omega (arith, e)) ∙ ap (λ (n : ℕ). Some (int_cmp (signed b i) (signed d n))) (sym same)
known_order p most i j true false b d some x y =
    let e = x.infinity refl in
    let l = y.number refl in
    infinity_number b d i j (point p j) (omega (arith, e, l))
known_order p most i j false true b d some x y =
    let l = x.number refl in
    let e = y.infinity refl in
    number_infinity b d i j (point p i) (omega (arith, e, l))
known_order p most i j false false b d some x y = ap (λ (r : Ordering). Some r) (sym (compared_points p i j b d some))

-- a NaN is unordered, on either side
pub left_nan : (y : Datum) → compared (nan false 0) y ≡ None
left_nan (finite b n) = refl
left_nan (infinite b) = refl
left_nan (nan b s) = refl

pub right_nan : (x : Datum) → compared x (nan false 0) ≡ None
right_nan (finite b n) = refl
right_nan (infinite b) = refl
right_nan (nan b s) = refl
