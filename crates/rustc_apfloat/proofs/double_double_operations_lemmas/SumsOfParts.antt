-- The exact sum of the parts of a pair is the number of the pair, which is delivered in the format of the result.
use Rattle.std.proofs.{Math.Path.subst₂, lemmas.Bool.cases_lt, lemmas.Bool.le-leb}
use Rattle.std.proofs.Common.{◌≡◌, ℕ, ◌+◌, ◌-◌, ◌*◌, ◌/◌, ◌%◌, ◌^◌, ◌<◌, ◌≤◌, Bool, true, false, not, ◌&&◌, ◌||◌, cond}
use Rattle.std.proofs.Common.{ltb, leb, eqb, refl, sym, ap, ◌∙◌, subst, ⊎_elim, arith, ℤ, pos, ◌+ℤ◌}
use Rattle.std.proofs.Math.Nat.{le_of_mul-le-mul_right, mul-le-mul_right, mul-lt-mul_of_pos_right}
use Rattle.std.proofs.lemmas.{Bool.lt-leb, Bool.eq-eqb, Bool.ne_eqb, Bool.false≢true, Nat.pow_pos, Nat.pow-add}
use Rattle.std.specs.Prelude.{◌*ℤ◌, if◌then◌else◌}
use Rattle.std.specs.Bool.{MatchBool}
use Rattle.apfloat_model.specs.{declared.kinds.Round.Round, formats.Format.Format, formats.Format.smallest_normalized}
use Rattle.apfloat_model.specs.formats.{Format.largest, Datum.Datum, Datum.finite, Datum.infinite, Datum.nan}
use Rattle.apfloat_model.specs.order.{Classes.is_finite, Classes.is_finite_non_zero, Classes.is_negative, Order.number}
use Rattle.apfloat_model.specs.arithmetic.{Exact.signed, Exact.magnitude, Exact.sign_of, Sums.zero_sum_sign}
use Rattle.apfloat_model.specs.rounding.{Outcome.Yields, Grid.IsBelow, Grid.IsAbove}
use Rattle.apfloat_model.specs.rounding.Rounding.{takes_above, IsPick, IsDelivered, ok_bits, overflow_bit}
use Rattle.apfloat_model.specs.rounding.Rounding.{underflow_bit, inexact_bit, rounds_below_normal, is_tiny}
use Rattle.apfloat_model.specs.rounding.Rounding.{raises_overflow, delivered_status}
use Rattle.apfloat_model.proofs.{general.Choices.ltb_times, general.Scaled.less_scaled, rounding.Picks.takes_scaled}
use Rattle.apfloat_model.proofs.whole_numbers.SignedProducts.{sum_times, magnitude-times, signed_times, sign_times}
use Rattle.apfloat_arithmetic.specs.other_formats.FormatOf.{IsSumTo, total_to}
use Rattle.apfloat_pair_theory.specs.{PairFormats.double, Pairs.Pair}
use Rattle.rustc_apfloat.specs.double_double_operations.PairConversions.{IsConvertedAnyway, IsPairTo, IsPairNumberTo}

-- ---- a magnitude as a fraction with fewer parts

regrouped : (x y z : ℕ) → x * y * z ≡ x * (y * z)
regrouped x y z = omega arith

below_of : (precision point a b w : ℕ) → 0 < w → IsBelow precision point (a * w) (b * w) → IsBelow precision point a b
below_of precision point a b w p x = record {
  on_grid = x.on_grid;
  not_above = le_of_mul-le-mul_right (subst (λ (k : ℕ). k ≤ a * w) (sym (regrouped point b w)) x.not_above) p;
  greatest = λ other g l.
      x.greatest other g (subst (λ (k : ℕ). k ≤ a * w) (regrouped other b w) (mul-le-mul_right w l));
}

above_of : (precision point a b w : ℕ) → 0 < w → IsAbove precision point (a * w) (b * w) → IsAbove precision point a b
above_of precision point a b w p x = record {
  on_grid = x.on_grid;
  not_below = le_of_mul-le-mul_right (subst (λ (k : ℕ). a * w ≤ k) (sym (regrouped point b w)) x.not_below) p;
  least = λ other g l. x.least other g (subst (λ (k : ℕ). a * w ≤ k) (regrouped other b w) (mul-le-mul_right w l));
}

pick_of : (precision : ℕ) (mode : Round) (negative : Bool) (a b w m : ℕ) → 0 < w
    → IsPick precision mode negative (a * w) (b * w) m → IsPick precision mode negative a b m
pick_of precision mode negative a b w m p x =
    let low = x.below in
    let high = x.above in
    let odd = eqb (low / (high - low) % 2) 1 in
    let below_by : (a - low * b) * w ≡ a * w - low * (b * w) =
    less_scaled a (low * b) w ∙ ap (λ (k : ℕ). a * w - k) (regrouped low b w) in
    let above_by : (high * b - a) * w ≡ high * (b * w) - a * w =
    less_scaled (high * b) a w ∙ ap (λ (k : ℕ). k - a * w) (regrouped high b w) in
    record {
      below = low;
      above = high;
      is_below = below_of precision low a b w p x.is_below;
      is_above = above_of precision high a b w p x.is_above;
      is = x.is
          ∙ sym (ap (λ (t : Bool). cond t high low) (takes_scaled mode negative odd (a - low * b) (high * b - a) w p)
          ∙ ap (λ (t : ℕ). cond (takes_above mode negative t ((high * b - a) * w) odd) high low) below_by
          ∙ ap (λ (t : ℕ). cond (takes_above mode negative (a * w - low * (b * w)) t odd) high low) above_by);
    }

-- ---- its status

eqb_times : (x y w : ℕ) → 0 < w → eqb x y ≡ eqb (x * w) (y * w)
eqb_times x y w p =
    ⊎_elim
    (λ (l : x < y).
    let k : x * w < y * w = mul-lt-mul_of_pos_right l p in
    ne_eqb x y (λ e. omega (arith, e, l)) ∙ sym (ne_eqb (x * w) (y * w) (λ e. omega (arith, e, k))))
    (λ (l : y ≤ x).
    ⊎_elim
    (λ (k : y < x).
    let i : y * w < x * w = mul-lt-mul_of_pos_right k p in
    ne_eqb x y (λ e. omega (arith, e, k)) ∙ sym (ne_eqb (x * w) (y * w) (λ e. omega (arith, e, i))))
    (λ (k : x ≤ y).
    let e : x ≡ y = omega arith in
    eq-eqb x y e ∙ sym (eq-eqb (x * w) (y * w) (ap (λ (z : ℕ). z * w) e)))
    (cases_lt y x))
    (cases_lt x y)

leb_times : (x y w : ℕ) → 0 < w → leb x y ≡ leb (x * w) (y * w)
leb_times x y w p =
    ⊎_elim (λ (l : y < x). lt-leb x y l ∙ sym (lt-leb (x * w) (y * w) (mul-lt-mul_of_pos_right l p)))
    (λ (l : x ≤ y). le-leb x y l ∙ sym (le-leb (x * w) (y * w) (mul-le-mul_right w l))) (cases_lt y x)

-- whether x is rounded to at most l, where h is the next number
abbrev rounds_low : Round → Bool → ℕ → ℕ → ℕ → Bool
rounds_low mode negative x l h = leb x l || (ltb x h && not (takes_above mode negative (x - l) (h - x) true))

rounds_low_times : (mode : Round) (negative : Bool) (x l h w : ℕ) → 0 < w
    → rounds_low mode negative x l h ≡ rounds_low mode negative (x * w) (l * w) (h * w)
rounds_low_times mode negative x l h w p =
    ap (λ (t : Bool). t || (ltb x h && not (takes_above mode negative (x - l) (h - x) true))) (leb_times x l w p)
    ∙ ap (λ (t : Bool). leb (x * w) (l * w) || (t && not (takes_above mode negative (x - l) (h - x) true)))
    (ltb_times x h w p) ∙ ap (λ (t : Bool). leb (x * w) (l * w) || (ltb (x * w) (h * w) && not t))
    (takes_scaled mode negative true (x - l) (h - x) w p) ∙ ap (λ (k : ℕ). leb (x * w) (l * w)
    || (ltb (x * w) (h * w) && not (takes_above mode negative k ((h - x) * w) true))) (less_scaled x l w)
    ∙ ap (λ (k : ℕ). leb (x * w) (l * w)
    || (ltb (x * w) (h * w) && not (takes_above mode negative (x * w - l * w) k true))) (less_scaled h x w)

below_normal_times : (precision : ℕ) (mode : Round) (negative : Bool) (a b w : ℕ) → 0 < w
    → rounds_below_normal precision mode negative a b ≡ rounds_below_normal precision mode negative (a * w) (b * w)
below_normal_times precision mode negative a b w p =
    rounds_low_times mode negative (2 * a) ((2 ^ precision - 1) * b) (2 ^ precision * b) w p
    ∙ ap (λ (k : ℕ). rounds_low mode negative k ((2 ^ precision - 1) * b * w) (2 ^ precision * b * w)) (regrouped 2 a w)
    ∙ ap (λ (k : ℕ). rounds_low mode negative (2 * (a * w)) k (2 ^ precision * b * w))
    (regrouped (2 ^ precision - 1) b w)
    ∙ ap (λ (k : ℕ). rounds_low mode negative (2 * (a * w)) ((2 ^ precision - 1) * (b * w)) k)
    (regrouped (2 ^ precision) b w)

tiny_times : (f : Format) (mode : Round) (negative : Bool) (a b pick w : ℕ) → 0 < w
    → is_tiny f mode negative a b pick ≡ is_tiny f mode negative (a * w) (b * w) pick
tiny_times f mode negative a b pick w p =
    ap (λ (t : Bool). if f.tiny_before_rounding then t
    else (if f.ieee_flags then rounds_below_normal f.precision mode negative a b else ltb pick (smallest_normalized f)))
    (ltb_times a (smallest_normalized f * b) w p
    ∙ ap (λ (k : ℕ). ltb (a * w) k) (regrouped (smallest_normalized f) b w))
    ∙ ap (λ (t : Bool). if f.tiny_before_rounding then ltb (a * w) (smallest_normalized f * (b * w))
    else (if f.ieee_flags then t else ltb pick (smallest_normalized f)))
    (below_normal_times f.precision mode negative a b w p)

status_times : (f : Format) (mode : Round) (negative : Bool) (a b pick w : ℕ) → 0 < w
    → delivered_status f mode negative a b pick ≡ delivered_status f mode negative (a * w) (b * w) pick
status_times f mode negative a b pick w p =
    ap (λ (t : Bool). if ltb (largest f) pick
    then (if raises_overflow f mode negative then overflow_bit + inexact_bit else inexact_bit) else (if t then ok_bits
    else (if is_tiny f mode negative a b pick then underflow_bit + inexact_bit else inexact_bit)))
    (eqb_times (pick * b) a w p ∙ ap (λ (k : ℕ). eqb k (a * w)) (regrouped pick b w))
    ∙ ap (λ (t : Bool). if ltb (largest f) pick
    then (if raises_overflow f mode negative then overflow_bit + inexact_bit else inexact_bit)
    else (if eqb (pick * (b * w)) (a * w) then ok_bits else (if t then underflow_bit + inexact_bit else inexact_bit)))
    (tiny_times f mode negative a b pick w p)

-- a common factor of the amount and the parts changes nothing
delivered_of : (f : Format) (mode : Round) (negative : Bool) (a b w : ℕ) (value : Datum) (status : ℕ) → 0 < w
    → IsDelivered f mode negative (a * w) (b * w) value status → IsDelivered f mode negative a b value status
delivered_of f mode negative a b w value status p x = record {
  pick = x.pick;
  is_pick = pick_of f.precision mode negative a b w x.pick p x.is_pick;
  value_is = x.value_is;
  status_is = x.status_is ∙ sym (status_times f mode negative a b x.pick w p);
}

-- ---- the sum of two parts

-- the sum counted in smaller parts is the sum of the numbers
rounded_sum : (g : Format) (mode : Round) (left right : Bool) (m n t : ℕ) (value : Datum) (status : ℕ)
    → Yields g mode (total_to g left right (signed left (m * 2 ^ t) +ℤ signed right (n * 2 ^ t)) (t + t)) value status
    → Yields g mode (total_to g left right (signed left m +ℤ signed right n) t) value status
rounded_sum g mode left right m n t value status h =
    let of_zero = zero_sum_sign mode left right in
    let exact = signed left m +ℤ signed right n in
    let u = 2 ^ t in
    let q = 2 ^ g.scale in
    let given = (exact *ℤ pos u) *ℤ pos q in
    let total = exact *ℤ pos q in
    let e : (signed left (m * u) +ℤ signed right (n * u)) ≡ (exact *ℤ pos u) =
    ap (λ (z : ℤ). z +ℤ signed right (n * u)) (signed_times left m u) ∙ ap (λ (z : ℤ). (signed left m *ℤ pos u) +ℤ z)
    (signed_times right n u) ∙ sym (sum_times (signed left m) (signed right n) (pos u)) in
    let sign : sign_of of_zero given ≡ sign_of of_zero total = sign_times of_zero (exact *ℤ pos u) q (pow_pos g.scale)
    ∙ sign_times of_zero exact u (pow_pos t) ∙ sym (sign_times of_zero exact q (pow_pos g.scale)) in
    let amount : magnitude given ≡ magnitude total * u =
    magnitude-times (exact *ℤ pos u) q ∙ ap (λ (k : ℕ). k * q) (magnitude-times exact u)
    ∙ swapped_factors (magnitude exact) u q ∙ ap (λ (k : ℕ). k * u) (sym (magnitude-times exact q)) in
    delivered_of g mode (sign_of of_zero total) (magnitude total) u u value status (pow_pos t)
    (subst (λ (k : ℕ). IsDelivered g mode (sign_of of_zero total) (magnitude total * u) k value status) (pow-add 2 t t)
    (subst₂ (λ (b : Bool) (k : ℕ). IsDelivered g mode b k (2 ^ (t + t)) value status) sign amount
    (subst (λ (z : ℤ). Yields g mode (total_to g left right z (t + t)) value status) e h)))
  where
    swapped_factors : (x y z : ℕ) → x * y * z ≡ x * z * y
    swapped_factors x y z = omega arith

-- the sum of two finite parts in another format
parts_rounded : (f g : Format) (mode : Round) (high low : Datum) (value : Datum) (status : ℕ)
    → IsSumTo f f g mode high low value status → is_finite high ≡ true → is_finite low ≡ true
    → Yields g mode (total_to g (is_negative high) (is_negative low) (number high +ℤ number low) f.scale) value status
parts_rounded f g mode (finite b m) (finite c n) value status h first second =
    rounded_sum g mode b c m n f.scale value status h
parts_rounded f g mode (finite b m) (infinite c) value status h first second = absurd (false≢true second)
parts_rounded f g mode (finite b m) (nan c s) value status h first second = absurd (false≢true second)
parts_rounded f g mode (infinite b) low value status h first second = absurd (false≢true first)
parts_rounded f g mode (nan b s) low value status h first second = absurd (false≢true first)

finite_of : (x : Datum) → is_finite_non_zero x ≡ true → is_finite x ≡ true
finite_of (finite b n) e = refl
finite_of (infinite b) e = e
finite_of (nan b s) e = e

chosen : (test : Bool) (P Q : Type 0) → test ≡ true → MatchBool test P Q → P
chosen true P Q e h = h
chosen false P Q e h = absurd (false≢true e)

pub number_delivered : (g : Format) (mode : Round) (x : Pair) (value : Datum) (status : ℕ)
    → IsPairTo g mode x value status → IsPairNumberTo g mode x value status
number_delivered g mode x value status h = λ some low. parts_rounded double g mode x.high x.low value status
    (chosen (is_finite_non_zero x.high) (IsSumTo double double g mode x.high x.low value status)
    (IsConvertedAnyway double g mode x.high value status) some h) (finite_of x.high some) low
