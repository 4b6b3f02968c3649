-- Sums and differences of magnitudes that are rounded to odd, and their signs.
use Rattle.std.proofs.Common.{◌≡◌, ℕ, zero, suc, ℤ, pos, ◌+ℤ◌, ◌-ℤ◌, ◌≤ℤ◌, ◌+◌, ◌-◌, ◌*◌, ◌/◌, ◌%◌, ◌^◌, ◌<◌, ◌≤◌, ◌⊎◌}
use Rattle.std.proofs.Common.{Bool, true, false, cond, not, ltb, sym, refl, ap, ◌∙◌, subst, inl, inr, ⊎_elim, to_z}
use Rattle.std.proofs.Common.{of_z, w32, arith}
use Rattle.std.proofs.Math.{Path.subst₂, Nat.mul-le-mul_left, Nat.mul-le-mul_right, Nat.pow-le-pow_right}
use Rattle.std.proofs.lemmas.{Bool.cases_lt, Bool.lt-ltb, Bool.le-ltb, Nat.pow-add, Nat.pow_pos, Int.ints}
use Rattle.apfloat_model.specs.arithmetic.Exact.{up, signed}
use Rattle.apfloat_model.specs.rounding.{Bounds.IsWithin, Bounds.exponent_bound, RoundingToOdd.IsRoundedToOdd}
use Rattle.apfloat_model.proofs.{general.Powers.two_pos, arithmetic.Signs.swapped_sum}
use Rattle.apfloat_model.proofs.rounding.OddRoundings.{whole_to_odd, to_odd_times, odd_together, odd_apart}
use Rattle.apfloat_words.specs.declared.terms.Term.{Term}
use Rattle.apfloat_words.specs.Totals.{counted, IsSignedToOdd, IsApartToOdd, Balances}
use Rattle.apfloat_words.proofs.Orders.{of_high, of_low}
use Rattle.apfloat_words.proofs.Totals.{raised, like_signs, unlike_signs, balances_times}
use mathlib.Core.Bool.{beq}

-- ---- significands that are moved up, with at least one free digit below them

pub moved_fits : (m precision digits : ℕ) → precision + 1 ≤ digits → m < 2 ^ precision
    → m * 2 ^ (digits - precision) < 2 ^ digits
moved_fits m precision digits l h =
    let k : 0 < 2 ^ (digits - precision) = pow_pos (digits - precision) in
    let e : precision + (digits - precision) ≡ digits = omega arith in
    let w : 2 ^ digits ≡ 2 ^ precision * 2 ^ (digits - precision) = ap (λ (x : ℕ). 2 ^ x) (sym e) ∙
    pow-add 2 precision (digits - precision) in
    let h' : m + 1 ≤ 2 ^ precision = omega (arith, h) in
    let d : (m + 1) * 2 ^ (digits - precision) ≤ 2 ^ precision * 2 ^ (digits - precision) =
    mul-le-mul_right (2 ^ (digits - precision)) h' in
    omega (arith, d, w, k)

pub moved_full : (m precision digits : ℕ) → 0 < precision → precision + 1 ≤ digits → 2 ^ (precision - 1) ≤ m
    → 2 ^ (digits - 1) ≤ m * 2 ^ (digits - precision)
moved_full m precision digits p l h =
    let e : (precision - 1) + (digits - precision) ≡ digits - 1 = omega arith in
    let w : 2 ^ (digits - 1) ≡ 2 ^ (precision - 1) * 2 ^ (digits - precision) = ap (λ (x : ℕ). 2 ^ x) (sym e) ∙
    pow-add 2 (precision - 1) (digits - precision) in
    let d : 2 ^ (precision - 1) * 2 ^ (digits - precision) ≤ m * 2 ^ (digits - precision) =
    mul-le-mul_right (2 ^ (digits - precision)) h in
    omega (arith, d, w)

-- the last digit of a significand that was moved up by at least one place is zero
pub moved_free : (m precision digits : ℕ) → precision + 1 ≤ digits → m * 2 ^ (digits - precision) % 2 ≡ 0
moved_free m precision digits l =
    let e : (digits - precision - 1) + 1 ≡ digits - precision = omega arith in
    let w : 2 ^ (digits - precision) ≡ 2 ^ (digits - precision - 1) * 2 = ap (λ (x : ℕ). 2 ^ x) (sym e) ∙
    pow-add 2 (digits - precision - 1) 1 in
    let d : m * 2 ^ (digits - precision) ≡ m * 2 ^ (digits - precision - 1) * 2 =
    ap (λ (x : ℕ). m * x) w ∙ omega arith in
    omega (arith, d)

-- an even significand with exactly that many digits
pub record IsMovedUp (digits n : ℕ) : Type 0 where
  pub full : 2 ^ (digits - 1) ≤ n
  pub fits : n < 2 ^ digits
  pub free : n % 2 ≡ 0

pub is_moved_up : (m precision digits : ℕ) → 0 < precision → precision + 1 ≤ digits → 2 ^ (precision - 1) ≤ m
    → m < 2 ^ precision → IsMovedUp digits (m * 2 ^ (digits - precision))
is_moved_up m precision digits some room full fits = record {
  full = moved_full m precision digits some room full;
  fits = moved_fits m precision digits room fits;
  free = moved_free m precision digits room;
}

-- ---- sums and differences, in one unit

-- a number whose last digit is zero is cut exactly by at most one place
free_cut : (low j gap : ℕ) → low % 2 ≡ 0 → gap ≤ 1 → IsRoundedToOdd 1 j low (2 ^ gap) → low ≡ j * 2 ^ gap
free_cut low j gap f l h =
    let e : (1 - gap) + gap ≡ 1 = omega arith in
    let w : 2 ≡ 2 ^ (1 - gap) * 2 ^ gap = ap (λ (x : ℕ). 2 ^ x) (sym e) ∙ pow-add 2 (1 - gap) gap in
    let d : low ≡ low / 2 * 2 = omega (arith, f) in
    let k : low ≡ low / 2 * 2 ^ (1 - gap) * 2 ^ gap = d ∙ ap (λ (x : ℕ). low / 2 * x) w ∙ omega arith in
    k ∙ sym (whole_to_odd 1 j (low / 2 * 2 ^ (1 - gap)) (2 ^ gap)
    (subst (λ (x : ℕ). IsRoundedToOdd 1 j x (2 ^ gap)) k h))

-- a number that is cut by at least two places is less than a quarter of its bound
far_cut : (low j gap few : ℕ) → low < few * 4 → few % 2 ≡ 0 → 2 ≤ gap → IsRoundedToOdd 1 j low (2 ^ gap) → j < few
far_cut low zero gap few f even l h = omega arith
far_cut low (suc i) gap few f even l h =
    let k : 2 ^ 2 ≤ 2 ^ gap = pow-le-pow_right two_pos l in
    let m : i * 2 ^ 2 ≤ i * 2 ^ gap = mul-le-mul_left i k in
    ⊎_elim
    (λ (e : low ≡ suc i * 2 ^ gap). omega (arith, e, k, m, f))
    (λ b. let a = b.above in let o = b.odd in omega (arith, a, o, m, f, even))
    h

-- an exact difference is the difference rounded to odd
exact_apart : (least high low j gap : ℕ) (flipped : Bool) → low ≡ j * 2 ^ gap → flipped ≡ ltb high j
    → IsApartToOdd least (high * 2 ^ gap) low flipped (cond flipped j high - cond flipped high j) (2 ^ gap)
exact_apart least high low j gap flipped e f =
    ⊎_elim
    (λ (l : high < j).
    let g : flipped ≡ true = f ∙ lt-ltb high j l in
    let r : (j - high) + high ≡ j = omega arith in
    let k : ((j - high) + high) * 2 ^ gap ≡ j * 2 ^ gap = ap (λ (x : ℕ). x * 2 ^ gap) r in
    rw g (record {
      amount = (j - high) * 2 ^ gap;
      balances = omega (arith, k, e);
      rounded = inl refl;
    }))
    (λ (l : j ≤ high).
    let g : flipped ≡ false = f ∙ le-ltb high j l in
    let r : (high - j) + j ≡ high = omega arith in
    let k : ((high - j) + j) * 2 ^ gap ≡ high * 2 ^ gap = ap (λ (x : ℕ). x * 2 ^ gap) r in
    rw g (record {
      amount = (high - j) * 2 ^ gap;
      balances = omega (arith, k, e);
      rounded = inl refl;
    }))
    (cases_lt high j)

-- a power of two is four times the power two places below, which is even
quarters : (digits : ℕ) → 3 ≤ digits → (2 ^ digits ≡ 2 ^ (digits - 2) * 4) × (2 ^ (digits - 1) ≡ 2 ^ (digits - 2) * 2)
    × (2 ^ (digits - 2) ≡ 2 ^ (digits - 3) * 2)
quarters digits l =
    let a : (digits - 2) + 2 ≡ digits = omega arith in
    let b : (digits - 2) + 1 ≡ digits - 1 = omega arith in
    let c : (digits - 3) + 1 ≡ digits - 2 = omega arith in (
      ap (λ (x : ℕ). 2 ^ x) (sym a) ∙ pow-add 2 (digits - 2) 2,
      ap (λ (x : ℕ). 2 ^ x) (sym b) ∙ pow-add 2 (digits - 2) 1,
      ap (λ (x : ℕ). 2 ^ x) (sym c) ∙ pow-add 2 (digits - 3) 1,
    )

pub apart_to_odd : (digits high low j gap : ℕ) (flipped : Bool) → 3 ≤ digits → 2 ^ (digits - 1) ≤ high → high % 2 ≡ 0
    → low < 2 ^ digits → low % 2 ≡ 0 → IsRoundedToOdd 1 j low (2 ^ gap) → flipped ≡ ltb high j
    → IsApartToOdd (2 ^ (digits - 2)) (high * 2 ^ gap) low flipped (cond flipped j high - cond flipped high j) (2 ^ gap)
apart_to_odd digits high low j gap flipped some full even fits free h f =
    let few = 2 ^ (digits - 2) in
    let w = quarters digits some in
    let a = w.0 in
    let b = w.1 in
    let c = w.2 in
    ⊎_elim
    (λ (l : gap < 2). exact_apart few high low j gap flipped (free_cut low j gap free (omega arith) h) f)
    (λ (l : 2 ≤ gap).
    let s : j < few = far_cut low j gap few (omega (arith, fits, a)) (omega (arith, c)) l h in
    let g : flipped ≡ false = f ∙ le-ltb high j (omega (arith, s, full, b)) in
    let r = odd_apart few high low j (2 ^ gap) even (omega (arith, s, full, b)) h in
    let d = r.0 in
    rw g (record { amount = high * 2 ^ gap - low; balances = omega (arith, d); rounded = r.1 }))
    (cases_lt gap 2)

pub together_to_odd : (digits high low j gap : ℕ) (flipped : Bool) → 2 ^ (digits - 1) ≤ high → high % 2 ≡ 0
    → IsRoundedToOdd 1 j low (2 ^ gap) → flipped ≡ false
    → (flipped ≡ false) × IsRoundedToOdd (2 ^ (digits - 2)) (cond flipped j high + cond flipped high j)
    (high * 2 ^ gap + low) (2 ^ gap)
together_to_odd digits high low j gap flipped full even h f =
    let k : 2 ^ (digits - 2) ≤ 2 ^ (digits - 1) = pow-le-pow_right two_pos (omega arith) in
    (f, rw f (odd_together (2 ^ (digits - 2)) high low j (2 ^ gap) (omega (arith, even)) (omega (arith, full, k)) h))

-- ---- two terms with signs

-- two significands that are moved up by `room` places, counted from the base: with the unit of the finer one
record AreMoved (base eh el e : ℤ) (mh ml room gap w : ℕ) : Type 0 where
  above : base ≤ℤ e
  high : mh * 2 ^ up (eh -ℤ base) ≡ mh * 2 ^ room * 2 ^ gap * w
  low : ml * 2 ^ up (el -ℤ base) ≡ ml * 2 ^ room * w
  unit : 2 ^ up (e -ℤ base) ≡ 2 ^ gap * w

are_moved : (base eh el e : ℤ) (digits mh ml room gap : ℕ) → (base +ℤ pos digits) ≤ℤ el → room ≤ digits
    → (el +ℤ pos gap) ≡ eh → (e +ℤ pos room) ≡ eh
    → AreMoved base eh el e mh ml room gap (2 ^ up ((el -ℤ pos room) -ℤ base))
are_moved base eh el e digits mh ml room gap l r g d =
    let lowest = el -ℤ pos room in
    let a = raised base lowest e gap (omega (arith, ints)) (omega (arith, ints)) in
    let b = raised base e eh room a.0 d in
    let v = raised base lowest el room (omega (arith, ints)) (omega (arith, ints)) in
    record {
      above = a.0;
      high = ap (λ (x : ℕ). mh * x) b.1 ∙ ap (λ (x : ℕ). mh * (2 ^ room * x)) a.1 ∙ omega arith;
      low = ap (λ (x : ℕ). ml * x) v.1 ∙ omega arith;
      unit = a.1;
    }

-- the total of two terms whose significands were moved up by `room` places
pub total_to_odd : (base eh el e : ℤ) (s t unlike flipped : Bool) (least digits mh ml room gap q : ℕ)
    → (base +ℤ pos digits) ≤ℤ el → room ≤ digits
    → (el +ℤ pos gap) ≡ eh → (e +ℤ pos room) ≡ eh → (unlike ≡ false → s ≡ t) → (unlike ≡ true → s ≡ t → ⊥)
    → (unlike ≡ false → (flipped ≡ false) × IsRoundedToOdd least q (mh * 2 ^ room * 2 ^ gap + ml * 2 ^ room) (2 ^ gap))
    → (unlike ≡ true → IsApartToOdd least (mh * 2 ^ room * 2 ^ gap) (ml * 2 ^ room) flipped q (2 ^ gap))
    → IsSignedToOdd least base (counted base s eh mh +ℤ counted base t el ml) (cond flipped t s) e q
total_to_odd base eh el e s t false flipped least digits mh ml room gap q l r g d like unlike together apart =
    let w = 2 ^ up ((el -ℤ pos room) -ℤ base) in
    let m = are_moved base eh el e digits mh ml room gap l r g d in
    let h = together refl in
    let sum = mh * 2 ^ room * 2 ^ gap + ml * 2 ^ room in
    let k : sum * w ≡ mh * 2 ^ up (eh -ℤ base) + ml * 2 ^ up (el -ℤ base) = omega (arith, m.high, m.low) in
    record {
      above = m.above;
      amount = sum * w;
      is = ap (λ (x : Bool). signed (cond x t s) (sum * w)) h.0 ∙ ap (λ (x : ℕ). signed s x) k ∙
          like_signs s (mh * 2 ^ up (eh -ℤ base)) (ml * 2 ^ up (el -ℤ base)) ∙
          ap (λ (x : Bool). counted base s eh mh +ℤ counted base x el ml) (like refl);
      rounded =
          subst (λ (x : ℕ). IsRoundedToOdd least q (sum * w) x) (sym m.unit)
          (to_odd_times least q sum (2 ^ gap) w (pow_pos (up ((el -ℤ pos room) -ℤ base))) h.1);
    }
total_to_odd base eh el e s t true flipped least digits mh ml room gap q l r g d like unlike together apart =
    let w = 2 ^ up ((el -ℤ pos room) -ℤ base) in
    let m = are_moved base eh el e digits mh ml room gap l r g d in
    let h = apart refl in
    let k : Balances flipped (h.amount * w) (mh * 2 ^ up (eh -ℤ base)) (ml * 2 ^ up (el -ℤ base)) =
    subst₂ (λ (x : ℕ) (y : ℕ). Balances flipped (h.amount * w) x y) (sym m.high) (sym m.low)
    (balances_times flipped h.amount (mh * 2 ^ room * 2 ^ gap) (ml * 2 ^ room) w h.balances) in
    record {
      above = m.above;
      amount = h.amount * w;
      is = unlike_signs s t flipped (mh * 2 ^ up (eh -ℤ base)) (ml * 2 ^ up (el -ℤ base)) (h.amount * w)
          (unlike refl) k;
      rounded =
          subst (λ (x : ℕ). IsRoundedToOdd least q (h.amount * w) x) (sym m.unit)
          (to_odd_times least q h.amount (2 ^ gap) w (pow_pos (up ((el -ℤ pos room) -ℤ base))) h.rounded);
    }

-- the order of the terms does not matter to the total
pub ordered_to_odd : {T : Type 0} (count : T → ℤ) (least : ℕ) (base : ℤ) (high low x y : T) (negative : Bool) (e : ℤ)
    (q : ℕ) → ((high ≡ x) × (low ≡ y)) ⊎ ((high ≡ y) × (low ≡ x))
    → IsSignedToOdd least base (count high +ℤ count low) negative e q
    → IsSignedToOdd least base (count x +ℤ count y) negative e q
ordered_to_odd count least base high low x y negative e q (inl d) h =
    subst₂ (λ a b. IsSignedToOdd least base (count a +ℤ count b) negative e q) d.0 d.1 h
ordered_to_odd count least base high low x y negative e q (inr d) h =
    let g = subst₂ (λ a b. IsSignedToOdd least base (count a +ℤ count b) negative e q) d.0 d.1 h in
    record {
      above = g.above;
      amount = g.amount;
      is = g.is ∙ swapped_sum (count y) (count x);
      rounded = g.rounded;
    }

-- two signs are equal exactly if they are not unlike
pub unlike_false : (s t : Bool) → not (beq s t) ≡ false → s ≡ t
unlike_false true true e = refl
unlike_false true false e = cc
unlike_false false true e = cc
unlike_false false false e = refl

pub unlike_true : (s t : Bool) → not (beq s t) ≡ true → s ≡ t → ⊥
unlike_true true true e d = cc
unlike_true true false e d = cc
unlike_true false true e d = cc
unlike_true false false e d = cc

-- an exponent as it is stored
pub exponent_word : (e : ℤ) → IsWithin exponent_bound e → to_z w32 (of_z w32 e) ≡ e
exponent_word e w = omega (arith, ints, w.low, w.high)

-- the total of two terms in the order of their exponents, whose significands were moved up by `room` places
pub terms_to_odd : (high low x y : Term) (e : ℤ) (flipped : Bool) (least digits room gap q : ℕ)
    → ((high ≡ x) × (low ≡ y)) ⊎ ((high ≡ y) × (low ≡ x)) → room ≤ digits
    → IsWithin exponent_bound x.exponent → IsWithin exponent_bound y.exponent
    → pos gap ≡ (to_z w32 (of_z w32 high.exponent) -ℤ to_z w32 (of_z w32 low.exponent))
    → (e +ℤ pos room) ≡ to_z w32 (of_z w32 high.exponent)
    → (not (beq high.negative low.negative) ≡ false → (flipped ≡ false)
    × IsRoundedToOdd least q (high.significand * 2 ^ room * 2 ^ gap + low.significand * 2 ^ room) (2 ^ gap))
    → (not (beq high.negative low.negative) ≡ true
    → IsApartToOdd least (high.significand * 2 ^ room * 2 ^ gap) (low.significand * 2 ^ room) flipped q (2 ^ gap))
    → (base : ℤ) → (base +ℤ pos digits) ≤ℤ x.exponent → (base +ℤ pos digits) ≤ℤ y.exponent
    → IsSignedToOdd least base (counted base x.negative x.exponent x.significand
    +ℤ counted base y.negative y.exponent y.significand) (cond flipped low.negative high.negative) e q
terms_to_odd high low x y e flipped least digits room gap q same r wx wy g d together apart base lx ly =
    let within = λ (t : Term). IsWithin exponent_bound t.exponent in
    let eh = exponent_word high.exponent (of_high within high low x y same wx wy) in
    let el = exponent_word low.exponent (of_low within high low x y same wx wy) in
    let b = of_low (λ (t : Term). (base +ℤ pos digits) ≤ℤ t.exponent) high low x y same lx ly in
    ordered_to_odd (λ (t : Term). counted base t.negative t.exponent t.significand) least base high low x y _ e q same
    (total_to_odd base high.exponent low.exponent e high.negative low.negative _ flipped least digits high.significand
    low.significand room gap q b r (let k = rw (eh, el) at g in omega (arith, ints, k)) (d ∙ eh)
    (unlike_false high.negative low.negative) (unlike_true high.negative low.negative) together apart)
