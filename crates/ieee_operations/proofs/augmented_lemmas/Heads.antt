-- The head of an augmented sum, from the sum in two modes and what these leave.
use Rattle.std.proofs.Common.{◌≡◌, ℕ, zero, suc, ◌+◌, ◌-◌, ◌*◌, ◌^◌, ◌<◌, ◌≤◌, Bool}
use Rattle.std.proofs.Common.{true, false, not, cond, ltb, eqb, sym, refl, ap, ◌∙◌, subst, inr, ⊎_elim, arith}
use Rattle.std.proofs.{Common.lit<, lemmas.Bool.cases_lt}
use Rattle.std.proofs.lemmas.{Bool.false≢true, Bool.le-ltb, Bool.lt-ltb, Bool.eq-eqb, Int.ints, Nat.pow_pos}
use Rattle.std.specs.Prelude.{ℤ, pos, neg_ℤ, ◌-ℤ◌}
use Rattle.std.specs.Bool.{MatchBool}
use Rattle.apfloat_model.specs.declared.kinds.Round.TheVariants.{NearestTiesToEven, TowardZero}
use Rattle.apfloat_model.specs.declared.kinds.NonfiniteBehavior.{NonfiniteBehavior}
use Rattle.apfloat_model.specs.declared.kinds.NonfiniteBehavior.TheVariants.{IEEE754, NanOnly, NanNegativeZero}
use Rattle.apfloat_model.specs.formats.Format.{Format, largest, greatest_significand, nan_base}
use Rattle.apfloat_model.specs.formats.Datum.{Datum, finite, infinite, nan}
use Rattle.apfloat_model.specs.{formats.Constants.zero_datum, rounding.Grid.IsOnGrid, rounding.Enclosure.IsEnclosed}
use Rattle.apfloat_model.specs.rounding.Rounding.{IsPick, past_largest, signed_quanta, zero_sign, ok_bits, overflow_bit}
use Rattle.apfloat_model.specs.rounding.{Rounding.inexact_bit, Rounding.underflow_bit, Negation.negated}
use Rattle.apfloat_model.specs.arithmetic.Exact.{magnitude, signed, sign_of, same_sign, IsRounded}
use Rattle.apfloat_model.specs.arithmetic.{Signs.abs, Signs.copy_sign, Scaling.IsScaling}
use Rattle.apfloat_model.specs.order.{Classes.is_finite, Classes.is_negative, Order.number, Order.is_equal}
use Rattle.apfloat_model.proofs.arithmetic.Signs.{no_sign, magnitude_signed, sign_signed, one_side}
use Rattle.apfloat_model.proofs.formats.Greatest.{greatest_fits, greatest_full, greatest_some}
use Rattle.apfloat_model.proofs.{formats.Ranges.at_top, general.Choices.not_zero, general.Powers.twice_half}
use Rattle.apfloat_model.proofs.rounding.{Deliveries.signed_some, Laws.delivered_once, Laws.exact_delivered}
use Rattle.apfloat_model.proofs.rounding.{Laws.pick_within, Neighbours.below_is, Neighbours.above_is_next}
use Rattle.apfloat_model.proofs.{rounding.FarMagnitudes.largest_on_grid, whole_numbers.SignedNumbers.largest_some}
use Rattle.apfloat_pair_theory.proofs.numbers.Roundings.{apart, pick_nearest, pick_on_grid, signed_exact}
use Rattle.apfloat_pair_theory.proofs.pairs.Normalised.{is_equal_by}
use Rattle.ieee_operations.specs.augmented.TiesToZero.{IsTiesToZeroPick}
use Rattle.ieee_operations.specs.augmented.Augmented.{left_of, IsPastLargest, IsWithTail, IsAugmented}
use Rattle.ieee_operations.specs.augmented.Numbers.{HasNumber, IsNearestTo, with_sign}
use Rattle.ieee_operations.proofs.augmented_lemmas.TiesToZero.{takes_low, ties_to_zero_exact, ties_to_zero_on_grid}
use Rattle.ieee_operations.proofs.augmented_lemmas.TiesToZero.{ties_to_zero_nearest, signed_nearest, short_is_below}
use Rattle.ieee_operations.proofs.augmented_lemmas.TiesToZero.{from_half}
use Rattle.ieee_operations.proofs.augmented_lemmas.Numbers.{signed_number, within_is, short_is, finite_within, abs_has}
use Rattle.ieee_operations.proofs.augmented_lemmas.Numbers.{negated_has, equal_numbers}
use Rattle.ieee_operations.proofs.augmented_lemmas.FractionPicks.{beyond_in, from_even_in, half_unit}

-- ---- the tail

copied : (kind : NonfiniteBehavior) (sign : Bool)
    → (cond (not (same_sign false sign)) (negated kind (finite false 0)) (finite false 0))
    ≡ finite (zero_sign kind sign) 0
copied IEEE754 true = refl
copied IEEE754 false = refl
copied NanOnly true = refl
copied NanOnly false = refl
copied NanNegativeZero true = refl
copied NanNegativeZero false = refl

zero_sign_twice : (kind : NonfiniteBehavior) (sign : Bool) → zero_sign kind (zero_sign kind sign) ≡ zero_sign kind sign
zero_sign_twice IEEE754 sign = refl
zero_sign_twice NanOnly sign = refl
zero_sign_twice NanNegativeZero sign = refl

-- the sign of a head, as far as a zero can have it
sign_of_head : (kind : NonfiniteBehavior) (s : Bool) (p : ℕ)
    → zero_sign kind (is_negative (signed_quanta kind s p)) ≡ zero_sign kind s
sign_of_head kind s zero = zero_sign_twice kind s
sign_of_head kind s (suc n) =
    ap (λ (d : Datum). zero_sign kind (is_negative d)) (signed_some kind s (suc n) (omega arith))

-- a rest with its number, signed as the head if it is zero
tail_is : (f : Format) (s : Bool) (p : ℕ) (head rest : Datum) (left : ℤ) → head ≡ signed_quanta f.nonfinite s p
    → HasNumber left rest → with_sign f head rest ≡ signed_quanta f.nonfinite (sign_of s left) (magnitude left)
tail_is f s p head (finite b zero) left e h =
    let z : left ≡ pos 0 = sym h.number_is ∙ no_sign b in
    copied f.nonfinite (is_negative head) ∙ ap (λ (c : Bool). finite c 0)
    (ap (λ (d : Datum). zero_sign f.nonfinite (is_negative d)) e ∙ sign_of_head f.nonfinite s p)
    ∙ ap (λ (i : ℤ). signed_quanta f.nonfinite (sign_of s i) (magnitude i)) (sym z)
tail_is f s p head (finite b (suc n)) left e h =
    ap (λ (t : Bool). cond t (copy_sign f zero_datum head) (finite b (suc n))) (not_zero (suc n) (omega arith))
    ∙ sym (ap (λ (i : ℤ). signed_quanta f.nonfinite (sign_of s i) (magnitude i)) (sym h.number_is)
    ∙ ap (λ (c : Bool). signed_quanta f.nonfinite c (magnitude (signed b (suc n))))
    (sign_signed s b (suc n) (omega arith)) ∙ ap (λ (k : ℕ). signed_quanta f.nonfinite b k) (magnitude_signed b (suc n))
    ∙ signed_some f.nonfinite b (suc n) (omega arith))
tail_is f s p head (infinite b) left e h = absurd (false≢true h.is_finite)
tail_is f s p head (nan b n) left e h = absurd (false≢true h.is_finite)

-- ---- the two results

-- a head within the largest value, and exactly what it leaves
pub with_tail_is : (f : Format) (of_zero : Bool) (v : ℤ) (p : ℕ) (head rest tail : Datum) (status : ℕ)
    → IsTiesToZeroPick f.precision (magnitude v) 1 p → p ≤ largest f
    → head ≡ signed_quanta f.nonfinite (sign_of of_zero v) p
    → IsOnGrid f.precision (magnitude (v -ℤ signed (sign_of of_zero v) p))
    → HasNumber (v -ℤ signed (sign_of of_zero v) p) rest → tail ≡ with_sign f head rest → status ≡ ok_bits
    → IsAugmented f of_zero v 1 head tail status
with_tail_is f of_zero v p head rest tail status t l e g h k o =
    let s = sign_of of_zero v in
    let w : ltb (largest f) p ≡ false = le-ltb (largest f) p l in
    let one : p ≡ p * 1 = omega arith in
    let g' : IsOnGrid f.precision (magnitude (left_of v 1 s p)) =
    subst (λ (i : ℕ). IsOnGrid f.precision (magnitude (v -ℤ signed s i))) one g in
    let h' : HasNumber (left_of v 1 s p) rest = subst (λ (i : ℕ). HasNumber (v -ℤ signed s i) rest) one h in
    let q = magnitude (left_of v 1 s p) in
    let b : eqb (q * 1) q ≡ true = eq-eqb (q * 1) q (omega arith) in
    let r : IsWithTail f s v 1 p head tail status =
    record {
      head_is = e;
      quanta = magnitude (left_of v 1 s p);
      is_pick = ties_to_zero_exact f.precision q q 1 (lit< tt) g' (omega arith);
      tail_is = k ∙ tail_is f s p head rest (left_of v 1 s p) e h';
      status_is = o ∙ sym (ap (λ (c : Bool). cond c ok_bits (underflow_bit + inexact_bit)) b);
    } in
    record {
      pick = p;
      is_pick = t;
      is = subst (λ (c : Bool). MatchBool c (IsPastLargest f s head tail status)
          (IsWithTail f s v 1 p head tail status)) (sym w) r;
    }

-- a head past the largest value
pub past_in : (f : Format) (of_zero : Bool) (exact : ℤ) (parts p : ℕ) (head tail : Datum) (status : ℕ)
    → IsTiesToZeroPick f.precision (magnitude exact) parts p → largest f < p
    → head ≡ past_largest f.nonfinite (nan_base f) (sign_of of_zero exact) → tail ≡ head
    → status ≡ overflow_bit + inexact_bit → IsAugmented f of_zero exact parts head tail status
past_in f of_zero exact parts p head tail status t l e k o =
    let s = sign_of of_zero exact in
    let w : ltb (largest f) p ≡ true = lt-ltb (largest f) p l in
    record {
      pick = p;
      is_pick = t;
      is = subst (λ (c : Bool). MatchBool c (IsPastLargest f s head tail status)
          (IsWithTail f s exact parts p head tail status)) (sym w)
          (record { head_is = e; tail_is = k; status_is = o });
    }

-- ---- a sum to nearest that is finite

-- the picks of an exact result to nearest and toward zero
pub record ArePicks (f : Format) (s : Bool) (amount parts : ℕ) (near short : Datum) : Type 0 where
  pub even : ℕ
  pub lower : ℕ
  pub is_even : IsPick f.precision NearestTiesToEven s amount parts even
  pub is_lower : IsPick f.precision TowardZero s amount parts lower
  pub even_within : even ≤ largest f
  pub lower_within : lower ≤ largest f
  pub near_is : near ≡ signed_quanta f.nonfinite s even
  pub short_is : short ≡ signed_quanta f.nonfinite s lower

pub picks_of : (f : Format) (of_zero : Bool) (v : ℤ) (parts : ℕ) (near short : Datum) (i j : ℕ) → 0 < parts
    → IsRounded f NearestTiesToEven of_zero v parts near i → IsRounded f TowardZero of_zero v parts short j
    → is_finite near ≡ true → ArePicks f (sign_of of_zero v) (magnitude v) parts near short
picks_of f of_zero v parts near short i j some x y h =
    let s = sign_of of_zero v in
    let l = finite_within f s x.pick near h x.value_is in
    let b = short_is_below f.precision s (magnitude v) parts x.pick y.pick x.is_pick y.is_pick in
    let w = (pick_within f.precision NearestTiesToEven s (magnitude v) parts x.pick some x.is_pick).1 in
    let k : y.pick ≤ largest f = omega (arith, l, b, w) in
    record {
      even = x.pick;
      lower = y.pick;
      is_even = x.is_pick;
      is_lower = y.is_pick;
      even_within = l;
      lower_within = k;
      near_is = x.value_is ∙ within_is f NearestTiesToEven s x.pick l;
      short_is = y.value_is ∙ within_is f TowardZero s y.pick k;
    }

pub near_number : (f : Format) (s : Bool) (amount : ℕ) (near short : Datum) (a : ArePicks f s amount 1 near short)
    → number near ≡ signed s a.even
near_number f s amount near short a = ap number a.near_is ∙ (signed_number f.nonfinite s a.even).number_is

pub short_number : (f : Format) (s : Bool) (amount : ℕ) (near short : Datum) (a : ArePicks f s amount 1 near short)
    → number short ≡ signed s a.lower
short_number f s amount near short a = ap number a.short_is ∙ (signed_number f.nonfinite s a.lower).number_is

even_apart : (p amount other : ℕ) → apart (p * 1) amount ≤ apart (other * 1) amount
    → apart p amount ≤ apart other amount
even_apart p amount other h = omega (arith, h)

-- the finite sum to nearest is a nearest number
pub near_is_nearest : (f : Format) (of_zero : Bool) (v : ℤ) (near short : Datum)
    → ArePicks f (sign_of of_zero v) (magnitude v) 1 near short → IsNearestTo f.precision v (number near)
near_is_nearest f of_zero v near short a =
    let s = sign_of of_zero v in
    let n = signed_nearest f.precision s (magnitude v) a.even
    (pick_on_grid f.precision s (magnitude v) 1 a.even a.is_even)
    (λ other o. even_apart a.even (magnitude v) other
    (pick_nearest f.precision s (magnitude v) 1 a.even other a.is_even o)) in
    subst (λ (z : ℤ). IsNearestTo f.precision v z) (sym (near_number f s (magnitude v) near short a))
    (subst (λ (z : ℤ). IsNearestTo f.precision z (signed s a.even)) (signed_exact of_zero v) n)

-- a pick with ties toward zero is a nearest number
pub pick_is_nearest : (f : Format) (of_zero : Bool) (v : ℤ) (p : ℕ) → IsTiesToZeroPick f.precision (magnitude v) 1 p
    → IsNearestTo f.precision v (signed (sign_of of_zero v) p)
pick_is_nearest f of_zero v p t =
    let s = sign_of of_zero v in
    subst (λ (z : ℤ). IsNearestTo f.precision z (signed s p)) (signed_exact of_zero v)
    (signed_nearest f.precision s (magnitude v) p (ties_to_zero_on_grid f.precision (magnitude v) 1 p t)
    (λ other o. ties_to_zero_nearest f.precision (magnitude v) p other t o))

-- two neighbours leave opposite rests exactly if the number is halfway
halfway : (s : Bool) (n e t : ℕ) → (signed s n -ℤ signed s t) ≡ neg_ℤ (signed s n -ℤ signed s e) → 2 * n ≡ e + t
halfway true n e t h = omega (arith, ints, h)
halfway false n e t h = omega (arith, ints, h)

opposites : (s : Bool) (n e t : ℕ) → 2 * n ≡ e + t → (signed s n -ℤ signed s t) ≡ neg_ℤ (signed s n -ℤ signed s e)
opposites true n e t h = omega (arith, ints, h)
opposites false n e t h = omega (arith, ints, h)

-- the pick, if the sum toward zero leaves exactly the opposite of what the sum to nearest leaves
pub tie_is : (f : Format) (of_zero : Bool) (v : ℤ) (near short rest left : Datum)
    → (a : ArePicks f (sign_of of_zero v) (magnitude v) 1 near short)
    → HasNumber (v -ℤ number near) rest → HasNumber (v -ℤ number short) left
    → is_equal left (negated f.nonfinite rest) ≡ true → IsTiesToZeroPick f.precision (magnitude v) 1 a.lower
tie_is f of_zero v near short rest left a r l e =
    let s = sign_of of_zero v in
    let o = negated_has f rest r.is_finite in
    let q = equal_numbers left (negated f.nonfinite rest) l.is_finite o.is_finite e in
    let w = sym l.number_is ∙ q ∙ o.number_is ∙ ap neg_ℤ r.number_is in
    let u : (v -ℤ signed s a.lower) ≡ neg_ℤ (v -ℤ signed s a.even) =
    ap (λ (z : ℤ). v -ℤ z) (sym (short_number f s (magnitude v) near short a)) ∙ w ∙
    ap (λ (z : ℤ). neg_ℤ (v -ℤ z)) (near_number f s (magnitude v) near short a) in
    let d : (signed s (magnitude v) -ℤ signed s a.lower) ≡ neg_ℤ (signed s (magnitude v) -ℤ signed s a.even) =
    subst (λ (z : ℤ). (z -ℤ signed s a.lower) ≡ neg_ℤ (z -ℤ signed s a.even)) (sym (signed_exact of_zero v)) u in
    from_half f.precision s (magnitude v) a.even a.lower a.is_even a.is_lower (halfway s (magnitude v) a.even a.lower d)

-- unless the number is halfway, the pick to even is that with ties toward zero
from_even : (precision : ℕ) (negative : Bool) (amount e t : ℕ) → IsPick precision NearestTiesToEven negative amount 1 e
    → IsPick precision TowardZero negative amount 1 t → (2 * amount ≡ e + t → ⊥) → IsTiesToZeroPick precision amount 1 e
from_even precision negative amount e t x y n =
    let s = short_is_below precision negative amount 1 e t x y in
    from_even_in precision negative amount 1 e x (λ h. n (omega (arith, h, s)))

-- the pick, if it does not
pub no_tie_is : (f : Format) (of_zero : Bool) (v : ℤ) (near short rest left : Datum) (status : ℕ)
    → (a : ArePicks f (sign_of of_zero v) (magnitude v) 1 near short) → HasNumber (v -ℤ number near) rest
    → (status ≡ ok_bits → HasNumber (v -ℤ number short) left)
    → (IsNearestTo f.precision v (number short) → status ≡ ok_bits)
    → (status ≡ ok_bits → is_equal left (negated f.nonfinite rest) ≡ false)
    → IsTiesToZeroPick f.precision (magnitude v) 1 a.even
no_tie_is f of_zero v near short rest left status a r exact nearest differs =
    let s = sign_of of_zero v in
    let n = magnitude v in
    from_even f.precision s (magnitude v) a.even a.lower a.is_even a.is_lower
    (λ h.
    let p = pick_is_nearest f of_zero v a.lower (from_half f.precision s n a.even a.lower a.is_even a.is_lower h) in
    let o = nearest (subst (λ (z : ℤ). IsNearestTo f.precision v z) (sym (short_number f s n near short a)) p) in
    let l = exact o in
    let m = negated_has f rest r.is_finite in
    let d : (v -ℤ signed s a.lower) ≡ neg_ℤ (v -ℤ signed s a.even) =
    subst (λ (z : ℤ). (z -ℤ signed s a.lower) ≡ neg_ℤ (z -ℤ signed s a.even)) (signed_exact of_zero v)
    (opposites s n a.even a.lower h) in
    let q : number left ≡ number (negated f.nonfinite rest) =
    l.number_is ∙ ap (λ (z : ℤ). v -ℤ z) (short_number f s n near short a) ∙ d ∙
    ap (λ (z : ℤ). neg_ℤ (v -ℤ z)) (sym (near_number f s n near short a)) ∙
    sym (m.number_is ∙ ap neg_ℤ r.number_is) in
    false≢true (sym (differs o) ∙ is_equal_by left (negated f.nonfinite rest) l.is_finite m.is_finite q))

-- ---- past the largest value

two_halves : (f : Format) → 1 ≤ f.span → 2 ^ f.span ≡ 2 * half_unit f
two_halves f h = sym (twice_half f.span h)

doubled : (f : Format) → 3 ≤ f.precision → 2 ^ f.precision ≡ 2 * 2 ^ (f.precision - 1)
doubled f h = sym (twice_half f.precision (omega (arith, h)))

-- the largest value is picked halfway past it
pub at_half : (f : Format) → 3 ≤ f.precision → 1 ≤ f.span → (amount : ℕ) → amount ≡ largest f + half_unit f
    → IsTiesToZeroPick f.precision amount 1 (largest f)
at_half f h k amount e =
    let m = greatest_significand f.nonfinite f.precision in
    let c = f.span in
    let w = two_halves f k in
    let u : 0 < half_unit f = pow_pos (f.span - 1) in
    let next : (m + 1) * 2 ^ c ≡ largest f + 2 ^ c = omega arith in
    let i : IsEnclosed f.precision (2 ^ (f.precision - 1)) m c amount 1 = record {
      double = doubled f h;
      fits = greatest_fits f.nonfinite f.precision;
      full = inr (greatest_full f.nonfinite f.precision h);
      from = omega (arith, e);
      to = omega (arith, e, w, u, next);
    } in
    record {
      below = m * 2 ^ c;
      above = (m + 1) * 2 ^ c;
      is_below = below_is f.precision (2 ^ (f.precision - 1)) m c amount 1 i;
      is_above = above_is_next f.precision (2 ^ (f.precision - 1)) m c amount 1 i (omega (arith, e, u));
      is = sym (takes_low (m * 2 ^ c) ((m + 1) * 2 ^ c) amount 1 (omega (arith, e, w, next)));
    }

-- a pick past the largest value is that of a greater magnitude
pub beyond : (f : Format) (s : Bool) (amount e : ℕ) → largest f < e
    → IsPick f.precision NearestTiesToEven s amount 1 e → largest f < amount
beyond f s amount e l x = let past = beyond_in f s amount 1 e (lit< tt) l x in omega (arith, past)

-- what is past it is the largest value toward zero
pub short_is_largest_in : (f : Format) → 3 ≤ f.precision
    → (of_zero : Bool) (exact : ℤ) (parts e : ℕ) (short : Datum) (j : ℕ) → 0 < parts → largest f < e
    → IsPick f.precision NearestTiesToEven (sign_of of_zero exact) (magnitude exact) parts e
    → IsRounded f TowardZero of_zero exact parts short j → short ≡ finite (sign_of of_zero exact) (largest f)
short_is_largest_in f h of_zero exact parts e short j p l x y =
    let s = sign_of of_zero exact in
    let g = beyond_in f s (magnitude exact) parts e p l x in
    let b = short_is_below f.precision s (magnitude exact) parts e y.pick x y.is_pick in
    let lo : largest f ≤ x.below = x.is_below.greatest (largest f) (largest_on_grid f) (omega (arith, g)) in
    ⊎_elim
    (λ (q : largest f < y.pick). y.value_is ∙ short_is f s y.pick q)
    (λ (q : y.pick ≤ largest f).
    let w : y.pick ≡ largest f = omega (arith, q, b, lo) in
    y.value_is ∙ within_is f TowardZero s y.pick q ∙
    ap (λ (i : ℕ). signed_quanta f.nonfinite s i) w ∙ signed_some f.nonfinite s (largest f) (largest_some f h))
    (cases_lt (largest f) y.pick)

away : (s : Bool) (n top h : ℕ) → magnitude (signed s n -ℤ signed s top) ≡ h → top < n → n ≡ top + h
away true n top h e l = omega (arith, ints, e, l, one_side (signed true n -ℤ signed true top))
away false n top h e l = omega (arith, ints, e, l, one_side (signed false n -ℤ signed false top))

toward : (s : Bool) (n top h : ℕ) → n ≡ top + h → magnitude (signed s n -ℤ signed s top) ≡ h
toward true n top h e = omega (arith, ints, e, one_side (signed true n -ℤ signed true top))
toward false n top h e = omega (arith, ints, e, one_side (signed false n -ℤ signed false top))

-- what the largest value leaves is half a unit exactly if the magnitude is halfway past it
pub half_left : (f : Format) (of_zero : Bool) (v : ℤ) (left unit : Datum)
    → HasNumber (v -ℤ signed (sign_of of_zero v) (largest f)) left → unit ≡ finite false (half_unit f)
    → largest f < magnitude v → is_equal (abs f left) unit ≡ true → magnitude v ≡ largest f + half_unit f
half_left f of_zero v left unit h u l e =
    let s = sign_of of_zero v in
    let a = abs_has f left h.is_finite in
    let q = equal_numbers (abs f left) unit a.is_finite (ap is_finite u) e in
    let w : pos (magnitude (number left)) ≡ pos (half_unit f) = sym a.number_is ∙ q ∙ ap number u in
    let k : magnitude (v -ℤ signed s (largest f)) ≡ half_unit f =
    let same : magnitude (number left) ≡ half_unit f = omega (arith, ints, w) in
    ap magnitude (sym h.number_is) ∙ same in
    away s (magnitude v) (largest f) (half_unit f)
    (subst (λ (z : ℤ). magnitude (z -ℤ signed s (largest f)) ≡ half_unit f) (sym (signed_exact of_zero v)) k) l

pub no_half_left : (f : Format) → 3 ≤ f.precision
    → 1 ≤ f.span → (of_zero : Bool) (v : ℤ) (left unit : Datum) (status : ℕ) → unit ≡ finite false (half_unit f)
    → (status ≡ ok_bits → HasNumber (v -ℤ signed (sign_of of_zero v) (largest f)) left)
    → (IsNearestTo f.precision v (signed (sign_of of_zero v) (largest f)) → status ≡ ok_bits)
    → (status ≡ ok_bits → is_equal (abs f left) unit ≡ false) → magnitude v ≡ largest f + half_unit f → ⊥
no_half_left f h k of_zero v left unit status u exact nearest differs e =
    let s = sign_of of_zero v in
    let o = nearest (pick_is_nearest f of_zero v (largest f) (at_half f h k (magnitude v) e)) in
    let l = exact o in
    let a = abs_has f left l.is_finite in
    let m : magnitude (v -ℤ signed s (largest f)) ≡ half_unit f =
    subst (λ (z : ℤ). magnitude (z -ℤ signed s (largest f)) ≡ half_unit f) (signed_exact of_zero v)
    (toward s (magnitude v) (largest f) (half_unit f) e) in
    let q = a.number_is ∙ ap pos (ap magnitude l.number_is ∙ m) ∙ sym (ap number u) in
    false≢true (sym (differs o) ∙ is_equal_by (abs f left) unit a.is_finite (ap is_finite u) q)

pub half_on_grid : (f : Format) → 3 ≤ f.precision → IsOnGrid f.precision (half_unit f)
half_on_grid f h = record {
  significand = 1;
  place = f.span - 1;
  fits = let a = greatest_fits f.nonfinite f.precision in
      let b = greatest_some f.nonfinite f.precision h in omega (arith, a, b);
  is = omega arith;
}

pub half_is_within : (f : Format) → 3 ≤ f.precision → half_unit f ≤ largest f
half_is_within f h =
    let w : 1 * half_unit f ≤ largest f =
    at_top f 1 (f.span - 1) (greatest_some f.nonfinite f.precision h) (omega arith) in
    omega (arith, w)

-- the smallest value, scaled
pub half_unit_is : (f : Format) → 3 ≤ f.precision → 1 ≤ f.span → (places : ℤ) → places ≡ pos (f.span - 1)
    → (value : Datum) → IsScaling f NearestTiesToEven (finite false 1) places value → value ≡ finite false (half_unit f)
half_unit_is f h k places e value x =
    let y : IsScaling f NearestTiesToEven (finite false 1) (pos (f.span - 1)) value =
    subst (λ (z : ℤ). IsScaling f NearestTiesToEven (finite false 1) z value) e x in
    let u : 0 < half_unit f = pow_pos (f.span - 1) in
    let r = delivered_once f NearestTiesToEven false _ _ value
    (signed_quanta f.nonfinite false (half_unit f)) y.0 ok_bits y.1
    (exact_delivered f NearestTiesToEven false (half_unit f) _ _ (lit< tt) (half_on_grid f h) (half_is_within f h)
    (omega arith)) in
    r.0 ∙ signed_some f.nonfinite false (half_unit f) u
