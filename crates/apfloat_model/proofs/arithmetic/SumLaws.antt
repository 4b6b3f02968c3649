-- Sterbenz's lemma (the difference of two numbers within a factor of two is exact), and that sums are monotone.
use Rattle.std.proofs.Common.{◌≡◌, ℕ, zero, suc, ℤ, pos, negsuc, ◌+ℤ◌, ◌-ℤ◌, ◌≤ℤ◌, ◌+◌, ◌-◌, ◌*◌, ◌^◌, ◌<◌, ◌≤◌, ◌⊎◌}
use Rattle.std.proofs.Common.{Bool, true, false, cond, ltb, sym, refl, ap, ◌∙◌, subst, inl, inr, ⊎_elim, lit<, arith}
use Rattle.std.proofs.Math.Nat.{le_of_mul-le-mul_right}
use Rattle.std.proofs.lemmas.{Nat.pow-add, Nat.pow_pos, Bool.cases_lt, Bool.false≢true, Int.ints}
use Rattle.std.specs.Prelude.{IsTrue}
use Rattle.apfloat_model.specs.declared.kinds.Round.{Round}
use Rattle.apfloat_model.specs.declared.kinds.NonfiniteBehavior.{NonfiniteBehavior, TheVariants.IEEE754}
use Rattle.apfloat_model.specs.arithmetic.Exact.{up, down, signed, sign_of, magnitude, IsRounded}
use Rattle.apfloat_model.specs.arithmetic.Sums.{IsSum, IsDifference, zero_sum_sign, IsExactly, IsNearby, IsMonotone}
use Rattle.apfloat_model.specs.formats.{Format.Format, Format.largest, Format.nan_base, Datum.Datum, Datum.finite}
use Rattle.apfloat_model.specs.formats.{Datum.infinite, Datum.nan, Members.IsFiniteOf, Members.IsMember}
use Rattle.apfloat_model.specs.rounding.{Grid.IsOnGrid, Rounding.IsDelivered, Rounding.delivered_value}
use Rattle.apfloat_model.specs.rounding.Rounding.{leads_out, past_largest, zero_sign, signed_quanta, ok_bits}
use Rattle.apfloat_model.specs.order.{Classes.is_finite, Order.number, Order.AtMost}
use Rattle.apfloat_model.proofs.{rounding.Laws.zero_delivered, rounding.Laws.pick_grows, general.Choices.not_zero}
use Rattle.apfloat_model.proofs.rounding.{Deliveries.signed_some, Laws.delivered_once, Laws.exact_delivered}
use Rattle.apfloat_model.proofs.arithmetic.Signs.{no_sign, magnitude_signed, one_side}
use mathlib.Core.Logic.{⊎_swap}

-- ---- Sterbenz's lemma

-- a multiple of the unit of a grid point, not above the point, is on the grid
close_at : (precision d s p k : ℕ) → s < 2 ^ precision → d ≡ k * 2 ^ p → d ≤ s * 2 ^ p → IsOnGrid precision d
close_at precision d s p k h q l =
    let l' : k * 2 ^ p ≤ s * 2 ^ p = omega arith in
    let k' : k ≤ s = le_of_mul-le-mul_right l' (pow_pos p) in
    record { significand = k; place = p; fits = omega arith; is = q }

-- a point is a multiple of each lower power of 2
raised_place : (t p j : ℕ) → p ≤ j → t * 2 ^ j ≡ t * 2 ^ (j - p) * 2 ^ p
raised_place t p j l =
    let e : j ≡ (j - p) + p = omega arith in
    let a : 2 ^ j ≡ 2 ^ (j - p) * 2 ^ p = ap (λ (x : ℕ). 2 ^ x) e ∙ pow-add 2 (j - p) p in
    ap (λ (x : ℕ). t * x) a ∙ omega arith

-- the difference of two multiples of a unit is a multiple of it
left_over : (a s u d : ℕ) → 0 < u → a * u ≡ s * u + d → d ≡ (a - s) * u
left_over a s u d p e =
    let l' : s * u ≤ a * u = omega arith in
    let l : s ≤ a = le_of_mul-le-mul_right l' p in
    let g : s + (a - s) ≡ a = omega arith in
    let k : (s + (a - s)) * u ≡ a * u = ap (λ (x : ℕ). x * u) g in
    omega arith

-- the distance d of two points, the first of which has the lower place, is on the grid
close_low : (precision s p t j d : ℕ) → s < 2 ^ precision → p ≤ j
    → (t * 2 ^ j ≡ s * 2 ^ p + d) ⊎ (s * 2 ^ p ≡ t * 2 ^ j + d) → d ≤ s * 2 ^ p → IsOnGrid precision d
close_low precision s p t j d h l (inl e) q =
    let r : t * 2 ^ j ≡ t * 2 ^ (j - p) * 2 ^ p = raised_place t p j l in
    close_at precision d s p (t * 2 ^ (j - p) - s) h (left_over (t * 2 ^ (j - p)) s (2 ^ p) d (pow_pos p) (sym r ∙ e)) q
close_low precision s p t j d h l (inr e) q =
    close_at precision d s p (s - t * 2 ^ (j - p)) h
    (left_over s (t * 2 ^ (j - p)) (2 ^ p) d (pow_pos p) (e ∙ ap (λ (x : ℕ). x + d) (raised_place t p j l))) q

-- Sterbenz's lemma on the grid: the difference of two grid numbers within a factor of two is on the grid
pub sterbenz_on_grid : (precision m n d : ℕ) → IsOnGrid precision m → IsOnGrid precision n
    → (m ≡ n + d) ⊎ (n ≡ m + d) → m ≤ 2 * n → n ≤ 2 * m → IsOnGrid precision d
sterbenz_on_grid precision m n d x y e a b =
    let e' : (x.significand * 2 ^ x.place ≡ y.significand * 2 ^ y.place + d)
    ⊎ (y.significand * 2 ^ y.place ≡ x.significand * 2 ^ x.place + d) =
    subst (λ (z : ℕ). (x.significand * 2 ^ x.place ≡ z + d) ⊎ (z ≡ x.significand * 2 ^ x.place + d)) y.is
    (subst (λ (z : ℕ). (z ≡ n + d) ⊎ (n ≡ z + d)) x.is e) in
    let f : (d ≤ m) × (d ≤ n) =
    ⊎_elim (λ (z : m ≡ n + d). (omega arith, omega arith)) (λ (z : n ≡ m + d). (omega arith, omega arith)) e in
    let f₀ = f.0 in let f₁ = f.1 in
    let dx : d ≤ x.significand * 2 ^ x.place = subst (λ (z : ℕ). d ≤ z) x.is f₀ in
    let dy : d ≤ y.significand * 2 ^ y.place = subst (λ (z : ℕ). d ≤ z) y.is f₁ in
    ⊎_elim
    (λ (l : x.place < y.place). let l' : x.place ≤ y.place = omega arith in
    close_low precision x.significand x.place y.significand y.place d x.fits l' (⊎_swap e') dx)
    (λ (l : y.place ≤ x.place). close_low precision y.significand y.place x.significand x.place d y.fits l e' dy)
    (cases_lt x.place y.place)

-- the distance of two numbers is the magnitude of their difference
far_apart : (m n : ℕ) → (m ≡ n + magnitude (pos m -ℤ pos n)) ⊎ (n ≡ m + magnitude (pos m -ℤ pos n))
far_apart m n =
    ⊎_elim (λ (z : up (pos m -ℤ pos n) ≡ 0). inr (omega (arith, ints)))
    (λ (z : down (pos m -ℤ pos n) ≡ 0). inl (omega (arith, ints))) (one_side (pos m -ℤ pos n))

-- the distance of two numbers is at most the greater of them
far_below : (m n d top : ℕ) → (m ≡ n + d) ⊎ (n ≡ m + d) → m ≤ top → n ≤ top → d ≤ top
far_below m n d top (inl e) a b = omega arith
far_below m n d top (inr e) a b = omega arith

-- a nonzero value with a sign is that number
exactly_some : (kind : NonfiniteBehavior) (negative : Bool) (n : ℕ) (value : Datum) (status : ℕ) → 0 < n
    → value ≡ signed_quanta kind negative (magnitude (signed negative n)) → status ≡ ok_bits
    → IsExactly (signed negative n) value status
exactly_some kind negative n v s p h e = record {
  negative = negative;
  quanta = n;
  value_is = h ∙ ap (λ (x : ℕ). signed_quanta kind negative x) (magnitude_signed negative n) ∙
      signed_some kind negative n p;
  number_is = refl;
  status_is = e;
}

-- a value with the sign and the magnitude of a number is that number
exactly : (kind : NonfiniteBehavior) (of_zero : Bool) (z : ℤ) (value : Datum) (status : ℕ)
    → value ≡ signed_quanta kind (sign_of of_zero z) (magnitude z) → status ≡ ok_bits → IsExactly z value status
exactly kind of_zero (pos zero) v s h e =
    record {
      negative = zero_sign kind of_zero;
      quanta = 0;
      value_is = h;
      number_is = no_sign (zero_sign kind of_zero);
      status_is = e;
    }
exactly kind of_zero (pos (suc n)) v s h e = exactly_some kind false (suc n) v s (omega arith) h e
exactly kind of_zero (negsuc n) v s h e = exactly_some kind true (suc n) v s (omega arith) h e

-- Sterbenz's lemma for two positive numbers
pub sterbenz_numbers : (format : Format) (mode : Round) (of_zero : Bool) (m n : ℕ) (value : Datum) (status : ℕ)
    → IsFiniteOf format false m → IsFiniteOf format false n → m ≤ 2 * n → n ≤ 2 * m
    → IsRounded format mode of_zero (pos m -ℤ pos n) 1 value status → IsExactly (pos m -ℤ pos n) value status
sterbenz_numbers format mode of_zero m n v s x y a b h =
    let d = magnitude (pos m -ℤ pos n) in
    let e = far_apart m n in
    let g : IsOnGrid format.precision d = sterbenz_on_grid format.precision m n d x.on_grid y.on_grid e a b in
    let r = delivered_once format mode (sign_of of_zero (pos m -ℤ pos n)) d 1 v
    (signed_quanta format.nonfinite (sign_of of_zero (pos m -ℤ pos n)) d) s ok_bits h
    (exact_delivered format mode (sign_of of_zero (pos m -ℤ pos n)) d d 1 (omega arith) g
    (far_below m n d (largest format) e x.within y.within) (omega arith)) in
    exactly format.nonfinite of_zero (pos m -ℤ pos n) v s r.0 r.1

-- a negative number added is a number subtracted
minus_is : (m n : ℕ) → (signed false m +ℤ signed true n) ≡ (pos m -ℤ pos n)
minus_is m n = omega (arith, ints)

-- Sterbenz's lemma: the difference of two data within a factor of two is exact
pub sterbenz : (format : Format) (mode : Round) (x y value : Datum) (status : ℕ) → IsMember format x → IsMember format y
    → IsDifference format mode x y value status → IsNearby x y value status
sterbenz format mode x y v s hx hy h = λ m n p q sm sn a b.
    let d : IsDifference format mode (finite false m) (finite false n) v s = rw (p, q) at h in
    let k : IsSum format mode (finite false m) (finite true n) v s = rw (not_zero n sn) at d in
    let r = rw (minus_is m n) at k in
    sterbenz_numbers format mode (zero_sum_sign mode false true) m n v s (rw p at hx) (rw q at hy) a b r

-- ---- sums are monotone

-- the value delivered for a pick, in a format with infinities
abbrev at : Bool → Bool → Bool → ℕ → ℕ → Datum
at past out negative top p = cond past (cond out (infinite negative) (finite negative top)) (finite negative p)

-- with infinities each zero keeps its sign
pub signed_quanta_is : (negative : Bool) (p : ℕ) → signed_quanta IEEE754 negative p ≡ finite negative p
signed_quanta_is negative zero = refl
signed_quanta_is negative (suc n) = signed_some IEEE754 negative (suc n) (omega arith)

-- in a format with infinities, this is the delivered value
value_is : (format : Format) (mode : Round) (negative : Bool) (p : ℕ) → format.nonfinite ≡ IEEE754
    → delivered_value format mode negative p ≡ at (ltb (largest format) p)
    (leads_out mode negative) negative (largest format) p
value_is format mode negative p e =
    ap (λ (k : NonfiniteBehavior). cond (ltb (largest format) p)
    (cond (leads_out mode negative) (past_largest k (nan_base format) negative) (finite negative (largest format)))
    (signed_quanta k negative p)) e ∙ ap (λ (v : Datum). cond (ltb (largest format) p)
    (cond (leads_out mode negative) (infinite negative) (finite negative (largest format))) v)
    (signed_quanta_is negative p)

-- with a plus sign, the delivered value increases with the pick
up_grows : (first second out : Bool) (top p q : ℕ) → ltb top p ≡ first → ltb top q ≡ second → p ≤ q
    → AtMost (at first out false top p) (at second out false top q)
up_grows true true true top p q x y l = inr refl
up_grows true true false top p q x y l = omega (arith, ints)
up_grows true false out top p q x y l = absurd (grind arith)
up_grows false true true top p q x y l = refl
up_grows false true false top p q x y l = let h : p ≤ top = grind arith in omega (arith, ints)
up_grows false false out top p q x y l = omega (arith, ints)

-- with a minus sign, the delivered value decreases with the pick
down_grows : (first second out : Bool) (top p q : ℕ) → ltb top p ≡ first → ltb top q ≡ second → q ≤ p
    → AtMost (at first out true top p) (at second out true top q)
down_grows true true true top p q x y l = inl refl
down_grows true true false top p q x y l = omega (arith, ints)
down_grows false true out top p q x y l = absurd (grind arith)
down_grows true false true top p q x y l = refl
down_grows true false false top p q x y l = let h : q ≤ top = grind arith in omega (arith, ints)
down_grows false false out top p q x y l = omega (arith, ints)

-- a value with a minus sign is at most any value with a plus sign
across : (first second down up : Bool) (top p q : ℕ) → AtMost (at first down true top p) (at second up false top q)
across true true true true top p q = inl refl
across true true true false top p q = refl
across true true false true top p q = refl
across true true false false top p q = omega (arith, ints)
across true false true past top p q = refl
across true false false past top p q = omega (arith, ints)
across false true out true top p q = refl
across false true out false top p q = omega (arith, ints)
across false false out past top p q = omega (arith, ints)

-- the signs and the magnitudes of two numbers in order
pub data Ordered : Bool → ℕ → Bool → ℕ → Type 0 where
  both_up : (x y : ℕ) → x ≤ y → Ordered false x false y
  both_down : (x y : ℕ) → y ≤ x → Ordered true x true y
  apart : (x y : ℕ) → Ordered true x false y
  zeros : (left right : Bool) → Ordered left 0 right 0

-- a zero of either sign is not above a number with a plus sign
from_zero : (negative : Bool) (n : ℕ) → Ordered negative 0 false n
from_zero true n = apart 0 n
from_zero false n = both_up 0 n (omega arith)

-- a zero of either sign is not below a number with a minus sign
to_zero : (negative : Bool) (n : ℕ) → Ordered true n negative 0
to_zero true n = both_down n 0 (omega arith)
to_zero false n = apart n 0

-- integers in order have signs and magnitudes in order
ordered : (of_zero of_other : Bool) (a b : ℤ) → a ≤ℤ b
    → Ordered (sign_of of_zero a) (magnitude a) (sign_of of_other b) (magnitude b)
ordered of_zero of_other (pos zero) (pos zero) l = zeros of_zero of_other
ordered of_zero of_other (pos zero) (pos (suc n)) l = from_zero of_zero (magnitude (pos (suc n)))
ordered of_zero of_other (pos (suc m)) (pos zero) l = absurd (omega (arith, ints))
ordered of_zero of_other (pos (suc m)) (pos (suc n)) l =
    both_up (magnitude (pos (suc m))) (magnitude (pos (suc n))) (omega (arith, ints))
ordered of_zero of_other (pos m) (negsuc n) l = absurd (omega (arith, ints))
ordered of_zero of_other (negsuc m) (pos zero) l = to_zero of_other (magnitude (negsuc m))
ordered of_zero of_other (negsuc m) (pos (suc n)) l = apart (magnitude (negsuc m)) (magnitude (pos (suc n)))
ordered of_zero of_other (negsuc m) (negsuc n) l =
    both_down (magnitude (negsuc m)) (magnitude (negsuc n)) (omega (arith, ints))

-- two zeros are in order, whatever their signs
zeros_ordered : (left right : Bool) → signed left 0 ≤ℤ signed right 0
zeros_ordered left right = rw (no_sign left, no_sign right) (omega (arith, ints))

-- a magnitude of 0 is delivered as the zero of its sign
zero_is : (format : Format) (mode : Round) (negative : Bool) (value : Datum) (status : ℕ) → format.nonfinite ≡ IEEE754
    → IsDelivered format mode negative 0 1 value status → value ≡ finite negative 0
zero_is format mode s v i e d =
    let x = delivered_once format mode s 0 1 v (signed_quanta format.nonfinite s 0) i ok_bits d
    (zero_delivered format mode s 1 0 (omega arith) refl) in
    x.0 ∙ ap (λ (k : NonfiniteBehavior). signed_quanta k s 0) e

-- signed magnitudes in order deliver values in order
grows_at : (format : Format) (mode : Round) (left right : Bool) (x y : ℕ) (value greater : Datum) (i j : ℕ)
    → format.nonfinite ≡ IEEE754 → Ordered left x right y → IsDelivered format mode left x 1 value i
    → IsDelivered format mode right y 1 greater j → AtMost value greater
grows_at format mode s t x y v w i j e (both_up a b l) d g =
    let k : d.pick ≤ g.pick =
    pick_grows format.precision mode false a b 1 d.pick g.pick (lit< tt) l d.is_pick g.is_pick in
    let h = up_grows (ltb (largest format) d.pick) (ltb (largest format) g.pick) (leads_out mode false)
    (largest format) d.pick g.pick refl refl k in
    subst (λ (z : Datum). AtMost z w) (sym (d.value_is ∙ value_is format mode false d.pick e))
    (subst (λ (z : Datum). AtMost (at (ltb (largest format) d.pick)
    (leads_out mode false) false (largest format) d.pick) z) (sym (g.value_is ∙ value_is format mode false g.pick e)) h)
grows_at format mode s t x y v w i j e (both_down a b l) d g =
    let k : g.pick ≤ d.pick =
    pick_grows format.precision mode true b a 1 g.pick d.pick (lit< tt) l g.is_pick d.is_pick in
    let h = down_grows (ltb (largest format) d.pick) (ltb (largest format) g.pick) (leads_out mode true)
    (largest format) d.pick g.pick refl refl k in
    subst (λ (z : Datum). AtMost z w) (sym (d.value_is ∙ value_is format mode true d.pick e))
    (subst
    (λ (z : Datum). AtMost (at (ltb (largest format) d.pick) (leads_out mode true) true (largest format) d.pick) z)
    (sym (g.value_is ∙ value_is format mode true g.pick e)) h)
grows_at format mode s t x y v w i j e (apart a b) d g =
    let h = across (ltb (largest format) d.pick) (ltb (largest format) g.pick) (leads_out mode true)
    (leads_out mode false) (largest format) d.pick g.pick in
    subst (λ (z : Datum). AtMost z w) (sym (d.value_is ∙ value_is format mode true d.pick e))
    (subst
    (λ (z : Datum). AtMost (at (ltb (largest format) d.pick) (leads_out mode true) true (largest format) d.pick) z)
    (sym (g.value_is ∙ value_is format mode false g.pick e)) h)
grows_at format mode s t x y v w i j e (zeros b c) d g =
    rw (zero_is format mode b v i e d, zero_is format mode c w j e g) (zeros_ordered b c)

-- a greater sum does not round to a lesser value
pub sum_grows : (format : Format) (mode : Round) (of_zero of_other : Bool) (a b : ℤ) (value greater : Datum) (i j : ℕ)
    → format.nonfinite ≡ IEEE754 → a ≤ℤ b → IsRounded format mode of_zero a 1 value i
    → IsRounded format mode of_other b 1 greater j → AtMost value greater
sum_grows format mode of_zero of_other a b v w i j e l d g =
    grows_at format mode (sign_of of_zero a) (sign_of of_other b) (magnitude a) (magnitude b) v w i j e
    (ordered of_zero of_other a b l) d g

-- adding the same number to both sides keeps their order
more_together : (a b z : ℤ) → a ≤ℤ b → (a +ℤ z) ≤ℤ (b +ℤ z)
more_together a b z l = omega (arith, ints)

-- a sum increases with its first operand
grows_to : (format : Format) (mode : Round) (left right : Bool) (m n : ℕ) (value : Datum) (i : ℕ)
    → IsSum format mode (finite left m) (finite right n) value i → format.nonfinite ≡ IEEE754
    → (y greater : Datum) (status : ℕ) → IsTrue (is_finite y) → signed left m ≤ℤ number y
    → IsSum format mode y (finite right n) greater status → AtMost value greater
grows_to format mode b d m n v s h e (finite c k) w i p l g =
    sum_grows format mode (zero_sum_sign mode b d) (zero_sum_sign mode c d) (signed b m +ℤ signed d n)
    (signed c k +ℤ signed d n) v w s i e (more_together (signed b m) (signed c k) (signed d n) l) h g
grows_to format mode b d m n v s h e (infinite c) w i p l g = absurd (false≢true p)
grows_to format mode b d m n v s h e (nan c t) w i p l g = absurd (false≢true p)

-- a sum of numbers does not decrease as one of them increases
pub monotone : (format : Format) (mode : Round) (x z value : Datum) (status : ℕ) → IsSum format mode x z value status
    → IsMonotone format mode x z value
monotone format mode (finite b m) (finite d n) v s h =
    λ e p q y w i r l g. grows_to format mode b d m n v s h e y w i r l g
monotone format mode (finite b m) (infinite d) v s h = λ e p q. absurd (false≢true q)
monotone format mode (finite b m) (nan d t) v s h = λ e p q. absurd (false≢true q)
monotone format mode (infinite b) z v s h = λ e p. absurd (false≢true p)
monotone format mode (nan b t) z v s h = λ e p. absurd (false≢true p)
