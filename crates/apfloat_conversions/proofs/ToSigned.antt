-- Conversion to signed integers, from the unsigned integer of the magnitude.
use Rattle.std.proofs.{Math.Bool.and-true, Math.Bool.and-false, Math.Nat.pow-le-pow_right, lemmas.Nat.pow_pos}
use Rattle.std.proofs.Common.{◌≡◌, ℕ, ◌+◌, ◌-◌, ◌*◌, ◌/◌, ◌%◌, ◌^◌, ◌<◌, ◌≤◌, Bool, true, false, not, cond, ◌&&◌, eqb}
use Rattle.std.proofs.Common.{sym, refl, ap, ◌∙◌, subst, ⊎_elim, arith, ℤ, pos, neg_ℤ, ◌≤ℤ◌, int_lt}
use Rattle.std.proofs.lemmas.{Int.ints, Bool.cases_lt, Bool.cases_eq, Bool.eq-eqb, Bool.ne_eqb, Bool.false≢true}
use Rattle.apfloat_model.specs.{arithmetic.Exact.signed, order.Classes.is_negative, order.Classes.category_of}
use Rattle.apfloat_model.specs.{order.Predicates.is_zero_category, whole_numbers.SignedWholes.IsNegatedWhole}
use Rattle.apfloat_model.specs.declared.kinds.NonfiniteBehavior.{NonfiniteBehavior}
use Rattle.apfloat_model.specs.declared.kinds.NonfiniteBehavior.TheVariants.{IEEE754, NanOnly, NanNegativeZero}
use Rattle.apfloat_model.specs.declared.kinds.Round.{Round, TheVariants.NearestTiesToEven, TheVariants.TowardPositive}
use Rattle.apfloat_model.specs.declared.kinds.Round.TheVariants.{TowardNegative, TowardZero, NearestTiesToAway}
use Rattle.apfloat_model.specs.formats.{Format.Format, Datum.Datum, Datum.finite, Datum.infinite, Datum.nan}
use Rattle.apfloat_model.specs.whole_numbers.WholeNumbers.{whole_pick, whole_quanta, inexact_unless}
use Rattle.apfloat_model.specs.whole_numbers.WholeNumbersOut.{IsToUnsigned, IsToSigned, IsWhole, Whole, ranged}
use Rattle.apfloat_model.specs.whole_numbers.WholeNumbersOut.{exact_or_not, invalid_whole}
use Rattle.apfloat_model.specs.rounding.{Flags.bits_of, Rounding.takes_above}
use Rattle.apfloat_model.specs.rounding.Negation.{swapped, negated, negated_nan, negated_zero}
use Rattle.apfloat_model.proofs.{general.Powers.two_pos, general.Powers.twice_half, whole_numbers.SignedTests.less_so}
use Rattle.apfloat_model.proofs.{whole_numbers.SignedTests.less_not, arithmetic.Signs.no_sign}
use Rattle.apfloat_conversions.specs.{declared.integers.Unsigned.Unsigned, Results.IsLimited, Wholes.signed_limit}
use Rattle.apfloat_conversions.proofs.Limits.{limited_unsigned, ranged_in, ranged_out, same_number}
use Rattle.apfloat_conversions.proofs.Wholes.{whole_exactly}

-- ---- of a value without a minus sign: one binary digit less

-- without a minus sign, the signed integer is the unsigned one for one digit less
pub to_signed_above : (format : Format) (mode : Round) (width : ℕ) (x : Datum) (number st : ℕ) (exact : Bool)
    → is_negative x ≡ false → IsToUnsigned format mode (width - 1) x number st exact
    → IsToSigned format mode width x (pos number) st exact
to_signed_above format mode width (nan b s) number st exact z h = h
to_signed_above format mode width (infinite true) number st exact z h = absurd (false≢true (sym z))
to_signed_above format mode width (infinite false) number st exact z h = h
to_signed_above format mode width (finite true n) number st exact z h = absurd (false≢true (sym z))
to_signed_above format mode width (finite false n) number st exact z h =
    let k : ℕ = whole_pick mode false n (2 ^ format.scale) in
    let a : int_lt (pos (whole_pick mode false n (2 ^ format.scale))) (pos 0) ≡ false =
    less_not (pos (whole_pick mode false n (2 ^ format.scale))) (pos 0) (omega (arith, ints)) in
    let b : int_lt (pos (whole_pick mode false n (2 ^ format.scale))) (neg_ℤ (pos (2 ^ (width - 1)))) ≡ false =
    less_not (pos (whole_pick mode false n (2 ^ format.scale))) (neg_ℤ (pos (2 ^ (width - 1)))) (omega (arith, ints)) in
    rw b (rw a at h)

-- ---- of a value with a minus sign: the magnitude, in the swapped mode

-- the swapped mode takes the greater magnitude without a minus sign exactly if the mode does with one
takes_swapped : (mode : Round) (x y : ℕ) (odd : Bool)
    → takes_above (swapped mode) false x y odd ≡ takes_above mode true x y odd
takes_swapped NearestTiesToEven x y odd = refl
takes_swapped TowardPositive x y odd = refl
takes_swapped TowardNegative x y odd = refl
takes_swapped TowardZero x y odd = refl
takes_swapped NearestTiesToAway x y odd = refl

-- the swapped mode picks the same magnitude below zero
pub pick_swapped : (mode : Round) (n p : ℕ) → whole_pick (swapped mode) false n p ≡ whole_pick mode true n p
pick_swapped mode n p =
    ap (λ (b : Bool). cond (eqb (n % p) 0) (n / p) (cond b (n / p + 1) (n / p))) (takes_swapped mode _ _ _)

-- for a negated NaN, the unsigned integer is 0, with INVALID_OP
nan_unsigned : (kind : NonfiniteBehavior) (format : Format) (mode : Round) (width s number st : ℕ) (exact : Bool)
    → IsToUnsigned format mode width (negated_nan kind true s) number st exact
    → IsWhole (invalid_whole (pos 0)) (pos number) st exact
nan_unsigned IEEE754 format mode width s number st exact h = h
nan_unsigned NanOnly format mode width s number st exact h = h
nan_unsigned NanNegativeZero format mode width s number st exact h = h

-- every mode picks 0 for 0
no_whole : (mode : Round) (negative : Bool) (scale : ℕ) → whole_pick mode negative 0 (2 ^ scale) ≡ 0
no_whole mode b scale = whole_exactly mode b 0 0 (2 ^ scale) (pow_pos scale) (omega arith)

-- 0 times the quanta of 1 is 0
no_quanta : (scale : ℕ) → eqb (0 * 2 ^ scale) 0 ≡ true
no_quanta scale = eq-eqb (0 * 2 ^ scale) 0 (omega arith)

-- 0 is unchanged in each range that contains it
zero_ranged : (low high : ℤ) (answer : Whole) → low ≤ℤ pos 0 → pos 0 ≤ℤ high → ranged low high (pos 0) answer ≡ answer
zero_ranged low high answer l h = rw (less_not (pos 0) low l, less_not high (pos 0) h) refl

-- for a zero of either sign, the unsigned integer is 0, with no flag
zero_unsigned_of : (format : Format) (mode : Round) (width number st : ℕ) (negative exact : Bool)
    → IsToUnsigned format mode width (finite negative 0) number st exact → (number ≡ 0) × (st ≡ 0)
zero_unsigned_of format mode width number st b exact h =
    let h' = rw (
      no_whole mode b format.scale,
      no_sign b,
      no_quanta format.scale,
      zero_ranged (pos 0) (pos (2 ^ width - 1)) (exact_or_not (pos 0) true (b && true)) (omega (arith, ints))
          (omega (arith, ints)),
    ) at h in
    (omega (arith, ints, h'.number_is), h'.status_is)

-- for a negated -0, the unsigned integer is 0, with no flag
zero_unsigned : (kind : NonfiniteBehavior) (format : Format) (mode : Round) (width number st : ℕ) (exact : Bool)
    → IsToUnsigned format mode width (negated_zero kind true) number st exact → (number ≡ 0) × (st ≡ 0)
zero_unsigned IEEE754 format mode width number st exact h = zero_unsigned_of format mode width number st false exact h
zero_unsigned NanOnly format mode width number st exact h = zero_unsigned_of format mode width number st false exact h
zero_unsigned NanNegativeZero format mode width number st exact h =
    zero_unsigned_of format mode width number st true exact h

-- -0 is converted to 0, which is not exact
minus_zero : (format : Format) (mode : Round) (width : ℕ) (value : ℤ) (status : ℕ) (is_exact : Bool) → value ≡ pos 0
    → status ≡ 0 → is_exact ≡ false → IsToSigned format mode width (finite true 0) value status is_exact
minus_zero format mode width value status is_exact v t e =
    rw (
      no_whole mode true format.scale,
      no_quanta format.scale,
      zero_ranged (neg_ℤ (pos (2 ^ (width - 1)))) (pos (2 ^ (width - 1) - 1)) (exact_or_not (pos 0) true true)
          (omega (arith, ints)) (omega (arith, ints)),
    )
    (record { number_is = v; status_is = t; is_exact_is = e })

-- a nonzero negative number within the range
minus_within : (format : Format) (mode : Round) (width n : ℕ) (value : ℤ) (status : ℕ) (is_exact : Bool)
    → eqb n 0 ≡ false → whole_pick mode true n (2 ^ format.scale) ≤ 2 ^ (width - 1)
    → value ≡ neg_ℤ (pos (whole_pick mode true n (2 ^ format.scale)))
    → status ≡ inexact_unless (eqb (whole_quanta format mode true n) n)
    → is_exact ≡ eqb (whole_quanta format mode true n) n
    → IsToSigned format mode width (finite true n) value status is_exact
minus_within format mode width n value status is_exact z l v t e =
    let k : ℕ = whole_pick mode true n (2 ^ format.scale) in
    let a : int_lt (neg_ℤ (pos (whole_pick mode true n (2 ^ format.scale)))) (neg_ℤ (pos (2 ^ (width - 1)))) ≡ false =
    less_not (neg_ℤ (pos (whole_pick mode true n (2 ^ format.scale)))) (neg_ℤ (pos (2 ^ (width - 1))))
    (omega (arith, ints, l)) in
    let b : int_lt (pos (2 ^ (width - 1) - 1)) (neg_ℤ (pos (whole_pick mode true n (2 ^ format.scale)))) ≡ false =
    less_not (pos (2 ^ (width - 1) - 1)) (neg_ℤ (pos (whole_pick mode true n (2 ^ format.scale))))
    (omega (arith, ints)) in
    rw (z, a, b) (record { number_is = v; status_is = t; is_exact_is = e ∙ sym (and-true _) })

-- a number below the range is replaced by the end of the range
minus_past : (format : Format) (mode : Round) (width n : ℕ) (value : ℤ) (status : ℕ) (is_exact : Bool)
    → 2 ^ (width - 1) < whole_pick mode true n (2 ^ format.scale) → value ≡ neg_ℤ (pos (2 ^ (width - 1))) → status ≡ 1
    → is_exact ≡ false → IsToSigned format mode width (finite true n) value status is_exact
minus_past format mode width n value status is_exact l v t e =
    let a : int_lt (neg_ℤ (pos (whole_pick mode true n (2 ^ format.scale)))) (neg_ℤ (pos (2 ^ (width - 1)))) ≡ true =
    less_so (neg_ℤ (pos (whole_pick mode true n (2 ^ format.scale)))) (neg_ℤ (pos (2 ^ (width - 1))))
    (omega (arith, ints, l)) in
    rw a (record { number_is = v; status_is = t; is_exact_is = e })

-- from two digits on, the least signed number has a magnitude below the greatest unsigned number
wider : (width : ℕ) → 2 ≤ width → 2 ^ (width - 1) < 2 ^ width - 1
wider width h =
    let t : 2 * 2 ^ (width - 1) ≡ 2 ^ width = twice_half width (omega (arith, h)) in
    let l : 1 ≤ width - 1 = omega (arith, h) in
    omega (arith, t, pow-le-pow_right two_pos l)

-- a number below 0, by its magnitude in the swapped mode
minus_number : (format : Format) (mode : Round) (width n number st : ℕ) (exact : Bool) (value : ℤ) (status : ℕ)
    (is_exact : Bool) → eqb n 0 ≡ false → 2 ≤ width
    → IsToUnsigned format (swapped mode) width (finite false n) number st exact
    → IsNegatedWhole false width number st exact value status is_exact
    → IsToSigned format mode width (finite true n) value status is_exact
minus_number format mode width n number st exact value status is_exact z w h g =
    let h' = rw (pick_swapped mode n (2 ^ format.scale)) at h in
    let k : ℕ = whole_pick mode true n (2 ^ format.scale) in
    let big = wider width w in
    ⊎_elim
    (λ (l : 2 ^ (width - 1) < whole_pick mode true n (2 ^ format.scale)).
    let o : 2 ^ (width - 1) < number =
    ⊎_elim
    (λ (m : 2 ^ width - 1 < whole_pick mode true n (2 ^ format.scale)).
    let i = rw (ranged_out width false (whole_pick mode true n (2 ^ format.scale))
    (eqb (whole_quanta format mode true n) n)
    m) at h' in
    omega (arith, ints, i.number_is, big))
    (λ (m : whole_pick mode true n (2 ^ format.scale) ≤ 2 ^ width - 1).
    let i = rw (ranged_in width false (whole_pick mode true n (2 ^ format.scale))
    (eqb (whole_quanta format mode true n) n)
    m) at h' in
    omega (arith, ints, i.number_is, l))
    (cases_lt (2 ^ width - 1) (whole_pick mode true n (2 ^ format.scale))) in
    let r = g.past o in
    minus_past format mode width n value status is_exact l r.1.0 r.0 r.1.1)
    (λ (l : whole_pick mode true n (2 ^ format.scale) ≤ 2 ^ (width - 1)).
    let i = rw (ranged_in width false (whole_pick mode true n (2 ^ format.scale))
    (eqb (whole_quanta format mode true n) n)
    (omega (arith, l, big))) at h' in
    let q = i.number_is in
    let q' : number ≡ whole_pick mode true n (2 ^ format.scale) = omega (arith, ints, q) in
    let r = g.within (omega (arith, q', l)) in
    minus_within format mode width n value status is_exact z l (r.1.0 ∙ ap (λ (j : ℕ). neg_ℤ (pos j)) q')
    (r.0 ∙ i.status_is) (r.1.1 ∙ and-true exact ∙ i.is_exact_is))
    (cases_lt (2 ^ (width - 1)) (whole_pick mode true n (2 ^ format.scale)))

-- with a minus sign, the signed integer is the negation of the unsigned one in the swapped mode
pub to_signed_below : (format : Format) (mode : Round) (width : ℕ) (x : Datum) (number st : ℕ) (exact : Bool)
    (value : ℤ) (status : ℕ) (is_exact : Bool) → is_negative x ≡ true → 2 ≤ width
    → IsToUnsigned format (swapped mode) width (negated format.nonfinite x) number st exact
    → IsNegatedWhole (is_zero_category (category_of x)) width number st exact value status is_exact
    → IsToSigned format mode width x value status is_exact
to_signed_below format mode width (nan false s) number st exact value status is_exact y w h g = absurd (false≢true y)
to_signed_below format mode width (nan true s) number st exact value status is_exact y w h g =
    let i = nan_unsigned format.nonfinite format (swapped mode) width s number st exact h in
    let e : number ≡ 0 = omega (arith, ints, i.number_is) in
    let r = g.within (omega (arith, e)) in
    record {
      number_is = r.1.0 ∙ ap (λ (j : ℕ). neg_ℤ (pos j)) e;
      status_is = r.0 ∙ i.status_is;
      is_exact_is = r.1.1 ∙ and-true exact ∙ i.is_exact_is;
    }
to_signed_below format mode width (infinite false) number st exact value status is_exact y w h g = absurd (false≢true y)
to_signed_below format mode width (infinite true) number st exact value status is_exact y w h g =
    let r = g.past (omega (arith, ints, h.number_is, wider width w)) in
    record { number_is = r.1.0; status_is = r.0; is_exact_is = r.1.1 }
to_signed_below format mode width (finite false n) number st exact value status is_exact y w h g = absurd (false≢true y)
to_signed_below format mode width (finite true n) number st exact value status is_exact y w h g =
    ⊎_elim
    (λ (e : n ≡ 0).
    let z : eqb n 0 ≡ true = eq-eqb n 0 e in
    let h' = rw z at h in
    let g' = rw z at g in
    let i = zero_unsigned format.nonfinite format (swapped mode) width number st exact h' in
    let r = g'.within (omega (arith, i.0)) in
    subst (λ (j : ℕ). IsToSigned format mode width (finite true j) value status is_exact) (sym e)
    (minus_zero format mode width value status is_exact (r.1.0 ∙ ap (λ (j : ℕ). neg_ℤ (pos j)) i.0) (r.0 ∙ i.1)
    (r.1.1 ∙ and-false exact)))
    (λ (e : n ≡ 0 → ⊥).
    let z : eqb n 0 ≡ false = ne_eqb n 0 e in
    minus_number format mode width n number st exact value status is_exact z w (rw z at h) (rw z at g))
    (cases_eq n 0)

-- ---- of a value of either sign, by the magnitude within the end of the range on its side

-- a nonzero number
pub limited_signed : (format : Format) (mode : Round) (width : ℕ) (negative : Bool) (n : ℕ) (whole : Unsigned) → 0 < n
    → IsLimited format mode negative n (signed_limit width negative) whole
    → IsToSigned format mode width (finite negative n) (signed negative whole.answer.value)
    (bits_of whole.answer.status) whole.is_exact
limited_signed format mode width false n whole p h =
    to_signed_above format mode width (finite false n) whole.answer.value (bits_of whole.answer.status) whole.is_exact
    refl (limited_unsigned format mode (width - 1) false n whole p h)
limited_signed format mode width true n whole p h =
    let z : eqb n 0 ≡ false = ne_eqb n 0 (λ e. omega (arith, e, p)) in
    ⊎_elim
    (λ (l : 2 ^ (width - 1) < whole_pick mode true n (2 ^ format.scale)).
    let i = h.past l in
    minus_past format mode width n _ _ _ l (ap (λ (j : ℕ). neg_ℤ (pos j)) (same_number _ _ i.number_is)) i.status_is
    i.is_exact_is)
    (λ (l : whole_pick mode true n (2 ^ format.scale) ≤ 2 ^ (width - 1)).
    let i = h.within l in
    minus_within format mode width n _ _ _ z l (ap (λ (j : ℕ). neg_ℤ (pos j)) (same_number _ _ i.number_is))
    i.status_is (i.is_exact_is ∙ and-true _))
    (cases_lt (2 ^ (width - 1)) (whole_pick mode true n (2 ^ format.scale)))

-- a zero is converted to 0, which is not exact if the zero has a minus sign
pub zero_signed : (format : Format) (mode : Round) (width : ℕ) (negative : Bool)
    → IsToSigned format mode width (finite negative 0) (pos 0) 0 (not negative)
zero_signed format mode width true = minus_zero format mode width (pos 0) 0 false refl refl refl
zero_signed format mode width false =
    rw (
      no_whole mode false format.scale,
      no_quanta format.scale,
      zero_ranged (neg_ℤ (pos (2 ^ (width - 1)))) (pos (2 ^ (width - 1) - 1)) (exact_or_not (pos 0) true false)
          (omega (arith, ints)) (omega (arith, ints)),
    )
    (record { number_is = refl; status_is = refl; is_exact_is = refl })

-- an infinity is replaced by the end of the range on its side
pub infinite_signed : (format : Format) (mode : Round) (width number : ℕ) (negative : Bool)
    → number ≡ signed_limit width negative
    → IsToSigned format mode width (infinite negative) (signed negative number) 1 false
infinite_signed format mode width number true e =
    record { number_is = ap (λ (j : ℕ). neg_ℤ (pos j)) e; status_is = refl; is_exact_is = refl }
infinite_signed format mode width number false e =
    record { number_is = ap (λ (j : ℕ). pos j) e; status_is = refl; is_exact_is = refl }
