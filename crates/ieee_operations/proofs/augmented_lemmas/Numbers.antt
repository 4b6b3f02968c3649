-- Finite results by their numbers: delivered values, exact roundings, differences, comparisons.
use Rattle.std.proofs.Common.{◌≡◌, ℕ, zero, suc, ◌+◌, ◌*◌, ◌<◌, ◌≤◌, Bool, true, false, not}
use Rattle.std.proofs.Common.{cond, ltb, eqb, sym, refl, ap, ◌∙◌, subst, ⊎_elim, arith, lit<}
use Rattle.std.proofs.lemmas.{Map.Lookups.exact_signed, Cmp.int_ranked, Bool.cases_lt, Bool.false≢true, Bool.le-ltb}
use Rattle.std.proofs.lemmas.{Bool.lt-ltb, Bool.eqb-true, Int.ints}
use Rattle.std.specs.Prelude.{ℤ, pos, neg_ℤ, ◌+ℤ◌, ◌-ℤ◌, ◌≤ℤ◌, ◌*ℤ◌}
use Rattle.std.specs.Ordering.{int_cmp, is_eq, is_lt}
use Rattle.std.specs.declared.cmp.Ordering.{Ordering, TheVariants.Less, TheVariants.Equal, TheVariants.Greater}
use Rattle.apfloat_model.specs.declared.kinds.Round.{Round, TheVariants.NearestTiesToEven, TheVariants.TowardZero}
use Rattle.apfloat_model.specs.declared.kinds.NonfiniteBehavior.{NonfiniteBehavior}
use Rattle.apfloat_model.specs.declared.kinds.NonfiniteBehavior.TheVariants.{IEEE754, NanOnly, NanNegativeZero}
use Rattle.apfloat_model.specs.formats.Format.{Format, largest, nan_base}
use Rattle.apfloat_model.specs.formats.{Datum.Datum, Datum.finite, Datum.infinite, Datum.nan, Members.IsMember}
use Rattle.apfloat_model.specs.rounding.{Grid.IsOnGrid, Rounding.delivered_value, Rounding.raises_overflow}
use Rattle.apfloat_model.specs.rounding.Rounding.{is_tiny, past_largest, signed_quanta, zero_sign, ok_bits, inexact_bit}
use Rattle.apfloat_model.specs.rounding.{Rounding.overflow_bit, Rounding.underflow_bit, Negation.negated}
use Rattle.apfloat_model.specs.arithmetic.Exact.{magnitude, signed, sign_of, IsRounded}
use Rattle.apfloat_model.specs.arithmetic.{Signs.abs, Sums.IsSum, Sums.IsDifference, Sums.zero_sum_sign}
use Rattle.apfloat_model.specs.order.Classes.{is_finite, is_negative}
use Rattle.apfloat_model.specs.order.Order.{number, is_equal, is_below}
use Rattle.apfloat_model.proofs.arithmetic.Signs.{no_sign, magnitude_signed}
use Rattle.apfloat_model.proofs.{general.Choices.not_zero, rounding.Deliveries.signed_some}
use Rattle.apfloat_model.proofs.rounding.{Deliveries.past_not_finite, Laws.delivered_once, Laws.exact_delivered}
use Rattle.apfloat_model.proofs.whole_numbers.SignedProducts.{magnitude-times, sign_times, signed_times}
use Rattle.apfloat_pair_theory.proofs.numbers.{Roundings.signed_exact, Roundings.signed_not, Signed.magnitude-neg}
use Rattle.ieee_operations.specs.augmented.Numbers.{HasNumber, IsAugmentedNumber}

-- ---- quanta with a sign

pub signed_number : (kind : NonfiniteBehavior) (negative : Bool) (p : ℕ)
    → HasNumber (signed negative p) (signed_quanta kind negative p)
signed_number kind s zero = record { is_finite = refl; number_is = no_sign (zero_sign kind s) ∙ sym (no_sign s) }
signed_number kind s (suc n) =
    let e = signed_some kind s (suc n) (omega arith) in
    record { is_finite = ap is_finite e; number_is = ap number e }

pub same_number : (exact : ℤ) (value other : Datum) → value ≡ other → HasNumber exact other → HasNumber exact value
same_number exact value other e h = subst (HasNumber exact) (sym e) h

-- ---- delivered values

pub within_is : (f : Format) (mode : Round) (negative : Bool) (p : ℕ) → p ≤ largest f
    → delivered_value f mode negative p ≡ signed_quanta f.nonfinite negative p
within_is f mode s p h = let b : ltb (largest f) p ≡ false = le-ltb (largest f) p h in rw b refl

pub past_is : (f : Format) (negative : Bool) (p : ℕ) → largest f < p
    → delivered_value f NearestTiesToEven negative p ≡ past_largest f.nonfinite (nan_base f) negative
past_is f s p h = let b : ltb (largest f) p ≡ true = lt-ltb (largest f) p h in rw b refl

pub short_is : (f : Format) (negative : Bool) (p : ℕ) → largest f < p
    → delivered_value f TowardZero negative p ≡ finite negative (largest f)
short_is f s p h = let b : ltb (largest f) p ≡ true = lt-ltb (largest f) p h in rw b refl

-- a finite nearest value is within the largest one, and the other way round
pub finite_within : (f : Format) (negative : Bool) (p : ℕ) (value : Datum) → is_finite value ≡ true
    → value ≡ delivered_value f NearestTiesToEven negative p → p ≤ largest f
finite_within f s p value h e =
    ⊎_elim
    (λ (q : largest f < p).
    absurd (false≢true (sym (ap is_finite (e ∙ past_is f s p q) ∙ past_not_finite f.nonfinite (nan_base f) s) ∙ h)))
    (λ (q : p ≤ largest f). q) (cases_lt (largest f) p)

pub past_without : (f : Format) (negative : Bool) (p : ℕ) (value : Datum) → is_finite value ≡ false
    → value ≡ delivered_value f NearestTiesToEven negative p → largest f < p
past_without f s p value h e =
    ⊎_elim
    (λ (q : largest f < p). q)
    (λ (q : p ≤ largest f).
    let k = signed_number f.nonfinite s p in
    let w : is_finite value ≡ true = ap is_finite (e ∙ within_is f NearestTiesToEven s p q) ∙ k.is_finite in
    absurd (false≢true (sym h ∙ w)))
    (cases_lt (largest f) p)

-- ---- exact roundings

pub record IsRoundedExactly (exact : ℤ) (value : Datum) (status : ℕ) : Type 0 where
  pub has : HasNumber exact value
  pub status_is : status ≡ ok_bits

-- a number of the format is rounded exactly
pub fraction_exactly : (f : Format) (mode : Round) (of_zero : Bool) (z exact : ℤ) (parts : ℕ) (value : Datum)
    (status : ℕ) → 0 < parts → IsOnGrid f.precision (magnitude z) → magnitude z ≤ largest f → (z *ℤ pos parts) ≡ exact
    → IsRounded f mode of_zero exact parts value status → IsRoundedExactly z value status
fraction_exactly f mode of_zero z exact parts value status p g l e h =
    let m : magnitude exact ≡ magnitude z * parts = ap magnitude (sym e) ∙ magnitude-times z parts in
    let s : sign_of of_zero exact ≡ sign_of of_zero z =
    ap (λ (i : ℤ). sign_of of_zero i) (sym e) ∙ sign_times of_zero z parts p in
    let r = delivered_once f mode (sign_of of_zero exact) (magnitude exact) parts value
    (signed_quanta f.nonfinite (sign_of of_zero exact) (magnitude z)) status ok_bits h
    (exact_delivered f mode (sign_of of_zero exact) (magnitude z) (magnitude exact) parts p g l m) in
    let k = signed_number f.nonfinite (sign_of of_zero exact) (magnitude z) in
    record {
      has = same_number z value _ r.0 (record {
        is_finite = k.is_finite;
        number_is = k.number_is ∙ ap (λ (c : Bool). signed c (magnitude z)) s ∙ signed_exact of_zero z;
      });
      status_is = r.1;
    }

times_one : (z : ℤ) → (z *ℤ pos 1) ≡ z
times_one z = omega (arith, ints)

pub rounded_exactly : (f : Format) (mode : Round) (of_zero : Bool) (z : ℤ) (value : Datum) (status : ℕ)
    → IsOnGrid f.precision (magnitude z) → magnitude z ≤ largest f → IsRounded f mode of_zero z 1 value status
    → IsRoundedExactly z value status
rounded_exactly f mode of_zero z value status g l h =
    fraction_exactly f mode of_zero z z 1 value status (lit< tt) g l (times_one z) h

past_not_ok : (out : Bool) → (cond out (overflow_bit + inexact_bit) inexact_bit) ≡ ok_bits → ⊥
past_not_ok true e = omega (arith, e)
past_not_ok false e = omega (arith, e)

lost_not_ok : (tiny : Bool) → (cond tiny (underflow_bit + inexact_bit) inexact_bit) ≡ ok_bits → ⊥
lost_not_ok true e = omega (arith, e)
lost_not_ok false e = omega (arith, e)

pub ok_tests : (past exact out tiny : Bool) → (cond past (cond out (overflow_bit + inexact_bit) inexact_bit)
    (cond exact ok_bits (cond tiny (underflow_bit + inexact_bit) inexact_bit))) ≡ ok_bits
    → (past ≡ false) × (exact ≡ true)
ok_tests true exact out tiny e = absurd (past_not_ok out e)
ok_tests false true out tiny e = (refl, refl)
ok_tests false false out tiny e = absurd (lost_not_ok tiny e)

pub test_within : (m n : ℕ) → ltb m n ≡ false → n ≤ m
test_within m n h = grind arith

-- a finite datum of exactly exact / parts quanta
pub record HasFractionParts (parts : ℕ) (exact : ℤ) (value : Datum) : Type 0 where
  pub is_finite : is_finite value ≡ true
  pub parts_are : (number value *ℤ pos parts) ≡ exact

-- a rounding with status OK is exact
pub ok_parts : (f : Format) (mode : Round) (of_zero : Bool) (exact : ℤ) (parts : ℕ) (value : Datum) (status : ℕ)
    → IsRounded f mode of_zero exact parts value status → status ≡ ok_bits → HasFractionParts parts exact value
ok_parts f mode of_zero exact parts value status x o =
    let s = sign_of of_zero exact in
    let t = ok_tests (ltb (largest f) x.pick) (eqb (x.pick * parts) (magnitude exact)) (raises_overflow f mode s)
    (is_tiny f mode s (magnitude exact) parts x.pick) (sym x.status_is ∙ o) in
    let p : x.pick * parts ≡ magnitude exact = eqb-true (x.pick * parts) (magnitude exact) t.1 in
    let k = signed_number f.nonfinite s x.pick in
    let v = x.value_is ∙ within_is f mode s x.pick (test_within _ _ t.0) in
    record {
      is_finite = ap is_finite v ∙ k.is_finite;
      parts_are = ap (λ (d : Datum). number d *ℤ pos parts) v ∙ ap (λ (z : ℤ). z *ℤ pos parts) k.number_is
          ∙ sym (signed_times s x.pick parts) ∙ ap (λ (i : ℕ). signed s i) p ∙ signed_exact of_zero exact;
    }

pub ok_exactly : (f : Format) (mode : Round) (of_zero : Bool) (z : ℤ) (value : Datum) (status : ℕ)
    → IsRounded f mode of_zero z 1 value status → status ≡ ok_bits → HasNumber z value
ok_exactly f mode of_zero z value status x o =
    let k = ok_parts f mode of_zero z 1 value status x o in
    record { is_finite = k.is_finite; number_is = sym (times_one (number value)) ∙ k.parts_are }

-- ---- sums and differences of finite data

pub sum_rounded : (f : Format) (mode : Round) (x y value : Datum) (status : ℕ) → is_finite x ≡ true
    → is_finite y ≡ true → IsSum f mode x y value status
    → IsRounded f mode (zero_sum_sign mode (is_negative x) (is_negative y)) (number x +ℤ number y) 1 value status
sum_rounded f mode (finite b m) (finite c n) value status p q s = s
sum_rounded f mode (finite b m) (infinite c) value status p q s = absurd (false≢true q)
sum_rounded f mode (finite b m) (nan c n) value status p q s = absurd (false≢true q)
sum_rounded f mode (infinite b) y value status p q s = absurd (false≢true p)
sum_rounded f mode (nan b m) y value status p q s = absurd (false≢true p)

-- the negation of a finite datum
pub record IsOpposite (z : ℤ) (value : Datum) : Type 0 where
  pub negative : Bool
  pub quanta : ℕ
  pub is : value ≡ finite negative quanta
  pub number_is : signed negative quanta ≡ neg_ℤ z

pub opposite : (kind : NonfiniteBehavior) (c : Bool) (n : ℕ) → IsOpposite (signed c n) (negated kind (finite c n))
opposite IEEE754 c zero = record { negative = not c; quanta = 0; is = refl; number_is = signed_not c 0 }
opposite NanOnly c zero = record { negative = not c; quanta = 0; is = refl; number_is = signed_not c 0 }
opposite NanNegativeZero c zero =
    record { negative = c; quanta = 0; is = refl; number_is = let e = no_sign c in omega (arith, ints, e) }
opposite kind c (suc n) =
    record {
      negative = not c;
      quanta = suc n;
      is = let e = not_zero (suc n) (omega arith) in rw e refl;
      number_is = signed_not c (suc n);
    }

pub negated_has : (f : Format) (x : Datum) → is_finite x ≡ true → HasNumber (neg_ℤ (number x)) (negated f.nonfinite x)
negated_has f (finite b m) p =
    let o = opposite f.nonfinite b m in
    record { is_finite = ap is_finite o.is; number_is = ap number o.is ∙ o.number_is }
negated_has f (infinite b) p = absurd (false≢true p)
negated_has f (nan b m) p = absurd (false≢true p)

pub difference_rounded : (f : Format) (mode : Round) (x y value : Datum) (status : ℕ) → is_finite x ≡ true
    → is_finite y ≡ true → IsDifference f mode x y value status
    → (of_zero : Bool) × IsRounded f mode of_zero (number x -ℤ number y) 1 value status
difference_rounded f mode (finite b m) (finite c n) value status p q h =
    let o = opposite f.nonfinite c n in
    let k : IsSum f mode (finite b m) (finite o.negative o.quanta) value status =
    subst (λ (d : Datum). IsSum f mode (finite b m) d value status) o.is h in
    let e : (signed b m +ℤ signed o.negative o.quanta) ≡ (signed b m -ℤ signed c n) =
    let g = o.number_is in omega (arith, ints, g) in (
      zero_sum_sign mode b o.negative,
      subst (λ (z : ℤ). IsRounded f mode (zero_sum_sign mode b o.negative) z 1 value status) e k,
    )
difference_rounded f mode (finite b m) (infinite c) value status p q s = absurd (false≢true q)
difference_rounded f mode (finite b m) (nan c n) value status p q s = absurd (false≢true q)
difference_rounded f mode (infinite b) y value status p q s = absurd (false≢true p)
difference_rounded f mode (nan b m) y value status p q s = absurd (false≢true p)

-- ---- numbers of a format

pub number_in : (f : Format) (x : Datum) → is_finite x ≡ true → IsMember f x → IsAugmentedNumber f x
number_in f (finite b m) p h =
    let e = magnitude_signed b m in
    record {
      is_finite = refl;
      on_grid = subst (λ (i : ℕ). IsOnGrid f.precision i) (sym e) h.on_grid;
      within = subst (λ (i : ℕ). i ≤ largest f) (sym e) h.within;
    }
number_in f (infinite b) p h = absurd (false≢true p)
number_in f (nan b m) p h = absurd (false≢true p)

pub negated_in : (f : Format) (x : Datum) → IsAugmentedNumber f x → IsAugmentedNumber f (negated f.nonfinite x)
negated_in f x h =
    let o = negated_has f x h.is_finite in
    let e = sym (ap magnitude o.number_is ∙ magnitude-neg (number x)) in
    record {
      is_finite = o.is_finite;
      on_grid = subst (λ (i : ℕ). IsOnGrid f.precision i) e h.on_grid;
      within = subst (λ (i : ℕ). i ≤ largest f) e h.within;
    }

-- a number of quanta with a sign
pub quanta_in : (f : Format) (negative : Bool) (p : ℕ) (x : Datum) → IsOnGrid f.precision p → p ≤ largest f
    → x ≡ signed_quanta f.nonfinite negative p → IsAugmentedNumber f x
quanta_in f s p x g l e =
    let k = signed_number f.nonfinite s p in
    let q : p ≡ magnitude (number x) =
    sym (ap (λ (d : Datum). magnitude (number d)) e ∙ ap magnitude k.number_is ∙ magnitude_signed s p) in
    record {
      is_finite = ap is_finite e ∙ k.is_finite;
      on_grid = subst (λ (i : ℕ). IsOnGrid f.precision i) q g;
      within = subst (λ (i : ℕ). i ≤ largest f) q l;
    }

-- the magnitude of a number without its sign
pub abs_has : (f : Format) (x : Datum) → is_finite x ≡ true → HasNumber (pos (magnitude (number x))) (abs f x)
abs_has f (finite true m) p =
    let o = opposite f.nonfinite true m in
    record { is_finite = ap is_finite o.is; number_is = ap number o.is ∙ o.number_is ∙ turned m } where
      turned : (m : ℕ) → neg_ℤ (signed true m) ≡ pos (magnitude (signed true m))
      turned m = let e = magnitude_signed true m in omega (arith, ints, e)
abs_has f (finite false m) p = record { is_finite = refl; number_is = ap pos (sym (magnitude_signed false m)) }
abs_has f (infinite b) p = absurd (false≢true p)
abs_has f (nan b m) p = absurd (false≢true p)

-- ---- comparisons

equal_by : (z w : ℤ) (r : Ordering) → r ≡ int_cmp z w → is_eq r ≡ true → z ≡ w
equal_by z w Less e h = absurd (false≢true h)
equal_by z w Equal e h = exact_signed z w (sym e)
equal_by z w Greater e h = absurd (false≢true h)

pub equal_numbers : (x y : Datum) → is_finite x ≡ true → is_finite y ≡ true → is_equal x y ≡ true → number x ≡ number y
equal_numbers (finite b m) (finite c n) p q h = equal_by (signed b m) (signed c n) _ refl h
equal_numbers (finite b m) (infinite c) p q h = absurd (false≢true q)
equal_numbers (finite b m) (nan c n) p q h = absurd (false≢true q)
equal_numbers (infinite b) y p q h = absurd (false≢true p)
equal_numbers (nan b m) y p q h = absurd (false≢true p)

below_by : (z w : ℤ) (r : Ordering) → r ≡ int_cmp z w → is_lt r ≡ false → w ≤ℤ z
below_by z w Less e h = absurd (false≢true (sym h))
below_by z w Equal e h = let k = exact_signed z w (sym e) in omega (arith, ints, k)
below_by z w Greater e h = let k = int_ranked z w Greater e in omega (arith, ints, k)

below_true : (z w : ℤ) (r : Ordering) → r ≡ int_cmp z w → is_lt r ≡ true → z ≤ℤ w
below_true z w Less e h = let k = int_ranked z w Less e in omega (arith, ints, k)
below_true z w Equal e h = absurd (false≢true h)
below_true z w Greater e h = absurd (false≢true h)

pub not_below : (x y : Datum) → is_finite x ≡ true → is_finite y ≡ true → is_below x y ≡ false → number y ≤ℤ number x
not_below (finite b m) (finite c n) p q h = below_by (signed b m) (signed c n) _ refl h
not_below (finite b m) (infinite c) p q h = absurd (false≢true q)
not_below (finite b m) (nan c n) p q h = absurd (false≢true q)
not_below (infinite b) y p q h = absurd (false≢true p)
not_below (nan b m) y p q h = absurd (false≢true p)

pub is_under : (x y : Datum) → is_finite x ≡ true → is_finite y ≡ true → is_below x y ≡ true → number x ≤ℤ number y
is_under (finite b m) (finite c n) p q h = below_true (signed b m) (signed c n) _ refl h
is_under (finite b m) (infinite c) p q h = absurd (false≢true q)
is_under (finite b m) (nan c n) p q h = absurd (false≢true q)
is_under (infinite b) y p q h = absurd (false≢true p)
is_under (nan b m) y p q h = absurd (false≢true p)

-- the order of two data without their signs is that of their magnitudes
order_of_numbers : (f : Format) (x y : Datum) → is_finite x ≡ true → is_finite y ≡ true
    → number (abs f x) ≤ℤ number (abs f y) → magnitude (number x) ≤ magnitude (number y)
order_of_numbers f x y p q l = omega (arith, ints, l, (abs_has f x p).number_is, (abs_has f y q).number_is)

pub order_of_abs : (f : Format) (x y : Datum) → is_finite x ≡ true → is_finite y ≡ true
    → is_below (abs f x) (abs f y) ≡ false → magnitude (number y) ≤ magnitude (number x)
order_of_abs f x y p q h =
    order_of_numbers f y x q p (not_below (abs f x) (abs f y) (abs_has f x p).is_finite (abs_has f y q).is_finite h)

pub order_of_less : (f : Format) (x y : Datum) → is_finite x ≡ true → is_finite y ≡ true
    → is_below (abs f x) (abs f y) ≡ true → magnitude (number x) ≤ magnitude (number y)
order_of_less f x y p q h =
    order_of_numbers f x y p q (is_under (abs f x) (abs f y) (abs_has f x p).is_finite (abs_has f y q).is_finite h)
