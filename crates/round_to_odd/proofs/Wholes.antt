-- Rounding to an odd integer, from the integers toward zero and away from zero.
use Rattle.std.proofs.Common.{◌≡◌, ℕ, zero, suc, ◌+◌, ◌-◌, ◌*◌, ◌/◌, ◌%◌, ◌^◌, ◌<◌}
use Rattle.std.proofs.Common.{◌≤◌, Bool, true, false, not, ◌&&◌, eqb, cond, if◌then◌else◌, sym, refl}
use Rattle.std.proofs.Common.{ap, ◌∙◌, subst, ⊎_elim, arith, ℤ, pos, negsuc, neg_ℤ, ◌≤ℤ◌}
use Rattle.std.proofs.Math.Nat.{eq_of_mul-eq-mul_right}
use Rattle.std.proofs.lemmas.{Bool.cases_lt, Bool.cases_Bool, Bool.eqb-true, Bool.eqb-false, Int.ints, Nat.pow_pos}
use Rattle.std.specs.Prelude.{unsigned_abs, int_lt, ◌<ℤ◌}
use Rattle.apfloat_model.specs.declared.kinds.Round.{Round, TheVariants.NearestTiesToEven}
use Rattle.apfloat_model.specs.declared.kinds.Round.TheVariants.{TowardZero, TowardPositive, TowardNegative}
use Rattle.apfloat_model.specs.{declared.kinds.Category.TheVariants.Zero, formats.Datum.Datum, formats.Datum.finite}
use Rattle.apfloat_model.specs.formats.{Datum.infinite, Datum.nan, Format.Format, Members.IsMember, Members.IsFiniteOf}
use Rattle.apfloat_model.specs.arithmetic.{Exact.signed, Exact.sign_of, Scaling.IsScaling}
use Rattle.apfloat_model.specs.order.Classes.{is_negative, is_integer, category_of}
use Rattle.apfloat_model.specs.rounding.{Grid.IsOnGrid, Rounding.ok_bits, Rounding.signed_quanta}
use Rattle.apfloat_model.specs.whole_numbers.WholeNumbers.{whole_pick, inexact_unless, IsRoundToIntegral}
use Rattle.apfloat_model.specs.whole_numbers.WholeNumbersOut.{Whole, whole_within, ranged, exact_or_not, IsToUnsigned}
use Rattle.apfloat_model.specs.whole_numbers.WholeNumbersOut.{IsToSigned}
use Rattle.apfloat_model.proofs.general.{Choices.cond_same, Powers.twice_power}
use Rattle.apfloat_model.proofs.rounding.{Laws.delivered_once, Laws.exact_delivered, Deliveries.quanta_are}
use Rattle.apfloat_model.proofs.whole_numbers.SignedTests.{less_so, less_not}
use Rattle.apfloat_model.proofs.{formats.LawfulRanges.HasRanges, order.Categories.zero_only}
use Rattle.round_to_odd.specs.Wholes.{odd_whole, odd_within, to_odd_unsigned, to_odd_signed, IsOddWhole}
use Rattle.round_to_odd.specs.Wholes.{IsRoundToOddIntegral}
use Rattle.round_to_odd.proofs.LastDigits.{half_is_whole}

-- the mode that rounds away from zero on the side of that sign
abbrev pub outward_mode : Bool → Round
outward_mode negative = if negative then TowardNegative else TowardPositive

-- ---- integers

toward_is : (negative : Bool) (n parts : ℕ) → whole_pick TowardZero negative n parts ≡ n / parts
toward_is negative n parts = sym (cond_same (eqb (n % parts) 0) (n / parts))

outward_is : (negative : Bool) (n parts : ℕ)
    → whole_pick (outward_mode negative) negative n parts ≡ cond (eqb (n % parts) 0) (n / parts) (n / parts + 1)
outward_is true n parts = refl
outward_is false n parts = refl

pub odd_is_toward : (negative : Bool) (n parts : ℕ) → eqb (n / parts % 2) 1 ≡ true
    → odd_whole n parts ≡ whole_pick TowardZero negative n parts
odd_is_toward negative n parts e =
    rw e (sym (cond_same (eqb (n % parts) 0) (n / parts))) ∙ sym (toward_is negative n parts)

pub odd_is_outward : (negative : Bool) (n parts : ℕ) → eqb (n / parts % 2) 1 ≡ false
    → odd_whole n parts ≡ whole_pick (outward_mode negative) negative n parts
odd_is_outward negative n parts e = rw e refl ∙ sym (outward_is negative n parts)

-- ---- rounding to an integral datum

-- the truncated value is an odd integer, or the value is a NaN or an infinity
pub integral_toward : (f : Format) (x value : Datum) (status : ℕ) → IsRoundToIntegral f TowardZero x value status
    → ((sign : Bool) (t : ℕ) → value ≡ finite sign (t * 2 ^ f.scale) → eqb (t % 2) 1 ≡ true)
    → IsRoundToOddIntegral f x value status
integral_toward f (nan b s) value status h k = h
integral_toward f (infinite b) value status h k = h
integral_toward f (finite b n) value status h k =
    let t : ℕ = n / 2 ^ f.scale in
    let e : whole_pick TowardZero b n (2 ^ f.scale) ≡ t = toward_is b n (2 ^ f.scale) in
    let is : value ≡ finite _ (t * 2 ^ f.scale) = h.value_is ∙ ap
    (λ (z : ℕ). signed_quanta f.nonfinite b (z * 2 ^ f.scale)) e ∙ quanta_are f.nonfinite b (t * 2 ^ f.scale) in
    let o : odd_whole n (2 ^ f.scale) ≡ whole_pick TowardZero b n (2 ^ f.scale) =
    odd_is_toward b n (2 ^ f.scale) (k _ t is) in
    record {
      value_is = h.value_is ∙ ap (λ (z : ℕ). signed_quanta f.nonfinite b (z * 2 ^ f.scale)) (sym o);
      status_is = h.status_is ∙ ap (λ (z : ℕ). inexact_unless (eqb (z * 2 ^ f.scale) n)) (sym o);
    }

-- the truncated value is an even integer
pub integral_outward : (f : Format) (x truncated value : Datum) (first status : ℕ)
    → IsRoundToIntegral f TowardZero x truncated first
    → IsRoundToIntegral f (outward_mode (is_negative x)) x value status
    → ((sign : Bool) (t : ℕ) → truncated ≡ finite sign (t * 2 ^ f.scale) → eqb (t % 2) 1 ≡ false)
    → IsRoundToOddIntegral f x value status
integral_outward f (nan b s) truncated value first status g h k = h
integral_outward f (infinite b) truncated value first status g h k = h
integral_outward f (finite b n) truncated value first status g h k =
    let t : ℕ = n / 2 ^ f.scale in
    let e : whole_pick TowardZero b n (2 ^ f.scale) ≡ t = toward_is b n (2 ^ f.scale) in
    let is : truncated ≡ finite _ (t * 2 ^ f.scale) = g.value_is ∙ ap
    (λ (z : ℕ). signed_quanta f.nonfinite b (z * 2 ^ f.scale)) e ∙ quanta_are f.nonfinite b (t * 2 ^ f.scale) in
    let o : odd_whole n (2 ^ f.scale) ≡ whole_pick (outward_mode b) b n (2 ^ f.scale) =
    odd_is_outward b n (2 ^ f.scale) (k _ t is) in
    record {
      value_is = h.value_is ∙ ap (λ (z : ℕ). signed_quanta f.nonfinite b (z * 2 ^ f.scale)) (sym o);
      status_is = h.status_is ∙ ap (λ (z : ℕ). inexact_unless (eqb (z * 2 ^ f.scale) n)) (sym o);
    }

-- half of an integral datum is a datum of the format
half_on_grid : (precision t s : ℕ) → 0 < s → IsOnGrid precision (t * 2 ^ s) → IsOnGrid precision (t * 2 ^ (s - 1))
half_on_grid precision t s h g =
    let e : s ≡ s - 1 + 1 = omega arith in
    let w : 2 ^ s ≡ 2 * 2 ^ (s - 1) = ap (λ (z : ℕ). 2 ^ z) e ∙ twice_power (s - 1) in
    let v : t * 2 ^ s ≡ t * (2 * 2 ^ (s - 1)) = ap (λ (z : ℕ). t * z) w in
    let is : t * 2 ^ s ≡ g.significand * 2 ^ g.place = g.is in
    let f = g.fits in
    ⊎_elim
    (λ (q : g.place < 1).
    let z : g.place ≡ 0 = omega arith in
    let one : g.significand * 2 ^ g.place ≡ g.significand * 2 ^ 0 = ap (λ (y : ℕ). g.significand * 2 ^ y) z in
    record {
      significand = t * 2 ^ (s - 1);
      place = 0;
      fits = omega (arith, f, one, is, v);
      is = omega arith;
    })
    (λ (q : 1 ≤ g.place).
    let d : g.place ≡ g.place - 1 + 1 = omega arith in
    let y : 2 ^ g.place ≡ 2 * 2 ^ (g.place - 1) = ap (λ (z : ℕ). 2 ^ z) d ∙ twice_power (g.place - 1) in
    let u : g.significand * 2 ^ g.place ≡ g.significand * (2 * 2 ^ (g.place - 1)) =
    ap (λ (z : ℕ). g.significand * z) y in
    record { significand = g.significand; place = g.place - 1; fits = f; is = omega (arith, u, is, v) })
    (cases_lt g.place 1)

-- half of an integral datum is an integer exactly if the datum is an even integer
pub half_is_integer : (f : Format) (x half : Datum) (sign : Bool) (t : ℕ) → HasRanges f → IsMember f x
    → IsScaling f NearestTiesToEven x (neg_ℤ (pos 1)) half → x ≡ finite sign (t * 2 ^ f.scale)
    → eqb (t % 2) 1 ≡ not (is_integer f half)
half_is_integer f x half sign t ranges member scaled e =
    let n : ℕ = t * 2 ^ f.scale in
    let s : ℕ = f.scale - 1 in
    let scale_some = ranges.scale_some in
    let unit_scale : f.scale ≡ s + 1 = omega (arith, scale_some) in
    let unit : 2 ^ f.scale ≡ 2 * 2 ^ s = ap (λ (z : ℕ). 2 ^ z) unit_scale ∙ twice_power s in
    let whole : IsFiniteOf f sign n = subst (λ (v : Datum). IsMember f v) e member in
    let real : IsScaling f NearestTiesToEven (finite sign n) (neg_ℤ (pos 1)) half =
    subst (λ (v : Datum). IsScaling f NearestTiesToEven v (neg_ℤ (pos 1)) half) e scaled in
    let same : n ≡ t * (2 * 2 ^ s) = ap (λ (z : ℕ). t * z) unit in
    let l = whole.within in
    let wanted = exact_delivered f NearestTiesToEven sign (t * 2 ^ s) (n * 2 ^ 0) (2 ^ 1) (omega arith)
    (half_on_grid f.precision t f.scale scale_some whole.on_grid) (omega (arith, same, l)) (omega (arith, same)) in
    let once = delivered_once f NearestTiesToEven sign (n * 2 ^ 0) (2 ^ 1) half _ real.0 ok_bits real.1 wanted in
    let half_is : half ≡ finite _ (t * 2 ^ s) = once.0 ∙ quanta_are f.nonfinite sign (t * 2 ^ s) in
    sym (ap (λ (v : Datum). not (is_integer f v)) half_is ∙ ap (λ (z : ℕ). not (eqb (t * 2 ^ s % z) 0)) unit
    ∙ half_is_whole t (2 ^ s) (pow_pos s))

-- a zero is even
pub zero_even : (f : Format) (x : Datum) → category_of x ≡ Zero → (sign : Bool) (t : ℕ)
    → x ≡ finite sign (t * 2 ^ f.scale) → eqb (t % 2) 1 ≡ false
zero_even f x e sign t is =
    let k : category_of (finite sign (t * 2 ^ f.scale)) ≡ Zero = ap category_of (sym is) ∙ e in
    let z : t * 2 ^ f.scale ≡ 0 = eqb-true (t * 2 ^ f.scale) 0 (zero_only (eqb (t * 2 ^ f.scale) 0) k) in
    let none : t ≡ 0 = eq_of_mul-eq-mul_right (2 ^ f.scale) (pow_pos f.scale) t 0 (omega (arith, z)) in
    ap (λ (n : ℕ). eqb (n % 2) 1) none

-- ---- integers out

-- the conversion of a number, given its integer
abbrev converted : ℤ → ℤ → Bool → ℕ → ℕ → ℕ → Whole
converted low high negative n parts whole =
    ranged low high (signed negative whole)
    (exact_or_not (signed negative whole) (eqb (whole * parts) n) (negative && eqb n 0))

-- out of range, a greater magnitude gives the same end
out_alike : (low high : ℤ) (negative : Bool) (n parts whole more : ℕ) → (low ≤ℤ pos 0) → (pos 0 ≤ℤ high)
    → whole ≤ more → ((converted low high negative n parts whole).number ≡ signed negative whole → ⊥)
    → converted low high negative n parts more ≡ converted low high negative n parts whole
out_alike low high true n parts whole more l h le out =
    ⊎_elim
    (λ (q : int_lt (neg_ℤ (pos whole)) low ≡ true).
    let lt : neg_ℤ (pos whole) <ℤ low = omega (arith, ints, q) in
    rw (q, less_so (neg_ℤ (pos more)) low (omega (arith, ints, lt, le))) refl)
    (λ (q : int_lt (neg_ℤ (pos whole)) low ≡ false).
    let top : int_lt high (neg_ℤ (pos whole)) ≡ false =
    less_not high (neg_ℤ (pos whole)) (omega (arith, ints, h)) in
    absurd (out (rw (q, top) refl)))
    (cases_Bool (int_lt (neg_ℤ (pos whole)) low))
out_alike low high false n parts whole more l h le out =
    let bottom : int_lt (pos whole) low ≡ false = less_not (pos whole) low (omega (arith, ints, l)) in
    let bottom' : int_lt (pos more) low ≡ false = less_not (pos more) low (omega (arith, ints, l)) in
    ⊎_elim
    (λ (q : int_lt high (pos whole) ≡ true).
    let lt : high <ℤ pos whole = omega (arith, ints, q) in
    rw (bottom, bottom', q, less_so high (pos more) (omega (arith, ints, lt, le))) refl)
    (λ (q : int_lt high (pos whole) ≡ false). absurd (out (rw (bottom, q) refl)))
    (cases_Bool (int_lt high (pos whole)))

-- a number in range is the number that is delivered, so that its last digit is that of the integer
even_if_in_range : (low high : ℤ) (negative : Bool) (n parts whole : ℕ)
    → (converted low high negative n parts whole).number ≡ signed negative whole
    → unsigned_abs (converted low high negative n parts whole).number ≡ whole
even_if_in_range low high negative n parts whole e = ap (λ (z : ℤ). unsigned_abs z) e ∙ size negative whole
  where
    size : (negative : Bool) (whole : ℕ) → unsigned_abs (signed negative whole) ≡ whole
    size true whole = omega (arith, ints)
    size false whole = refl

-- the odd integer is the one toward zero
odd_out_toward : (low high : ℤ) (negative : Bool) (n parts : ℕ) → (low ≤ℤ pos 0) → (pos 0 ≤ℤ high)
    → unsigned_abs (converted low high negative n parts (n / parts)).number % 2 ≡ 1
    → converted low high negative n parts (odd_whole n parts) ≡ converted low high negative n parts (n / parts)
odd_out_toward low high negative n parts l h odd =
    ⊎_elim
    (λ (q : eqb (n / parts % 2) 1 ≡ true).
    ap (λ (z : ℕ). converted low high negative n parts z)
    (odd_is_toward negative n parts q ∙ toward_is negative n parts))
    (λ (q : eqb (n / parts % 2) 1 ≡ false).
    out_alike low high negative n parts (n / parts) (odd_whole n parts) l h (at_least n parts)
    (λ e.
    let k = even_if_in_range low high negative n parts (n / parts) e in
    eqb-false (n / parts % 2) 1 q (ap (λ (z : ℕ). z % 2) (sym k) ∙ odd)))
    (cases_Bool (eqb (n / parts % 2) 1))
  where
    at_least : (n parts : ℕ) → n / parts ≤ odd_whole n parts
    at_least n parts = by (eqb (n % parts) 0) (eqb (n / parts % 2) 1) (n / parts)
      where
        by : (exact odd : Bool) (t : ℕ) → t ≤ (if exact then t else (if odd then t else t + 1))
        by true odd t = omega arith
        by false true t = omega arith
        by false false t = omega arith

-- the odd integer is the one away from zero
odd_out_outward : (low high : ℤ) (negative : Bool) (n parts : ℕ) → (low ≤ℤ pos 0) → (pos 0 ≤ℤ high)
    → (unsigned_abs (converted low high negative n parts (n / parts)).number % 2 ≡ 1 → ⊥)
    → converted low high negative n parts (odd_whole n parts)
    ≡ converted low high negative n parts (whole_pick (outward_mode negative) negative n parts)
odd_out_outward low high negative n parts l h even =
    ⊎_elim (λ (q : eqb (n / parts % 2) 1 ≡ true). ap (λ (z : ℕ). converted low high negative n parts z)
    (odd_is_toward negative n parts q ∙ toward_is negative n parts) ∙
    sym (out_alike low high negative n parts (n / parts) (whole_pick (outward_mode negative) negative n parts) l h
    (at_least negative n parts) (λ e. even
    (ap (λ (z : ℕ). z % 2) (even_if_in_range low high negative n parts (n / parts) e) ∙ eqb-true (n / parts % 2) 1 q))))
    (λ (q : eqb (n / parts % 2) 1 ≡ false). ap (λ (z : ℕ). converted low high negative n parts z)
    (odd_is_outward negative n parts q)) (cases_Bool (eqb (n / parts % 2) 1))
  where
    by : (exact : Bool) (t : ℕ) → t ≤ cond exact t (t + 1)
    by true t = omega arith
    by false t = omega arith

    at_least : (negative : Bool) (n parts : ℕ) → n / parts ≤ whole_pick (outward_mode negative) negative n parts
    at_least negative n parts =
        subst (λ (z : ℕ). n / parts ≤ z) (sym (outward_is negative n parts)) (by (eqb (n % parts) 0) (n / parts))

-- the integer toward zero is odd
pub whole_toward : (f : Format) (low high : ℤ) (x : Datum) → (low ≤ℤ pos 0) → (pos 0 ≤ℤ high)
    → unsigned_abs (whole_within f TowardZero low high x).number % 2 ≡ 1
    → whole_within f TowardZero low high x ≡ odd_within f low high x
whole_toward f low high (nan b s) l h odd = refl
whole_toward f low high (infinite b) l h odd = refl
whole_toward f low high (finite b n) l h odd =
    let e = ap (λ (z : ℕ). converted low high b n (2 ^ f.scale) z) (toward_is b n (2 ^ f.scale)) in
    e ∙ sym (odd_out_toward low high b n (2 ^ f.scale) l h
    (ap (λ (w : Whole). unsigned_abs w.number % 2) (sym e) ∙ odd))

-- the integer toward zero is even
pub whole_outward : (f : Format) (low high : ℤ) (x : Datum) → (low ≤ℤ pos 0) → (pos 0 ≤ℤ high)
    → (unsigned_abs (whole_within f TowardZero low high x).number % 2 ≡ 1 → ⊥)
    → whole_within f (outward_mode (is_negative x)) low high x ≡ odd_within f low high x
whole_outward f low high (nan b s) l h even = refl
whole_outward f low high (infinite b) l h even = refl
whole_outward f low high (finite b n) l h even =
    let e = ap (λ (z : ℕ). converted low high b n (2 ^ f.scale) z) (toward_is b n (2 ^ f.scale)) in
    sym (odd_out_outward low high b n (2 ^ f.scale) l h
    (λ k. even (ap (λ (w : Whole). unsigned_abs w.number % 2) e ∙ k)))

-- ---- the integers of a width

end_some : (n : ℕ) → pos 0 ≤ℤ pos n
end_some n = omega (arith, ints)

end_none : (n : ℕ) → neg_ℤ (pos n) ≤ℤ pos 0
end_none n = omega (arith, ints)

pub unsigned_toward : (f : Format) (width : ℕ) (x : Datum) (value status : ℕ) (exact : Bool)
    → IsToUnsigned f TowardZero width x value status exact → value % 2 ≡ 1
    → IsOddWhole (to_odd_unsigned f width x) (pos value) status
unsigned_toward f width x value status exact h odd =
    let e = whole_toward f (pos 0) (pos (2 ^ width - 1)) x (omega (arith, ints)) (end_some (2 ^ width - 1))
    (ap (λ (z : ℤ). unsigned_abs z % 2) (sym h.number_is) ∙ odd) in
    record {
      number_is = h.number_is ∙ ap (λ (w : Whole). w.number) e;
      status_is = h.status_is ∙ ap (λ (w : Whole). w.status) e;
    }

pub unsigned_outward : (f : Format) (width : ℕ) (x : Datum) (first value first_status status : ℕ) (exact other : Bool)
    → IsToUnsigned f TowardZero width x first first_status exact
    → IsToUnsigned f (outward_mode (is_negative x)) width x value status other → (first % 2 ≡ 1 → ⊥)
    → IsOddWhole (to_odd_unsigned f width x) (pos value) status
unsigned_outward f width x first value first_status status exact other g h even =
    let e = whole_outward f (pos 0) (pos (2 ^ width - 1)) x (omega (arith, ints)) (end_some (2 ^ width - 1))
    (λ k. even (ap (λ (z : ℤ). unsigned_abs z % 2) g.number_is ∙ k)) in
    record {
      number_is = h.number_is ∙ ap (λ (w : Whole). w.number) e;
      status_is = h.status_is ∙ ap (λ (w : Whole). w.status) e;
    }

pub signed_toward : (f : Format) (width : ℕ) (x : Datum) (value : ℤ) (status : ℕ) (exact : Bool)
    → IsToSigned f TowardZero width x value status exact → unsigned_abs value % 2 ≡ 1
    → IsOddWhole (to_odd_signed f width x) value status
signed_toward f width x value status exact h odd =
    let e = whole_toward f (neg_ℤ (pos (2 ^ (width - 1)))) (pos (2 ^ (width - 1) - 1)) x (end_none (2 ^ (width - 1)))
    (end_some (2 ^ (width - 1) - 1)) (ap (λ (z : ℤ). unsigned_abs z % 2) (sym h.number_is) ∙ odd) in
    record {
      number_is = h.number_is ∙ ap (λ (w : Whole). w.number) e;
      status_is = h.status_is ∙ ap (λ (w : Whole). w.status) e;
    }

pub signed_outward : (f : Format) (width : ℕ) (x : Datum) (first value : ℤ) (first_status status : ℕ)
    (exact other : Bool) → IsToSigned f TowardZero width x first first_status exact
    → IsToSigned f (outward_mode (is_negative x)) width x value status other → (unsigned_abs first % 2 ≡ 1 → ⊥)
    → IsOddWhole (to_odd_signed f width x) value status
signed_outward f width x first value first_status status exact other g h even =
    let e = whole_outward f (neg_ℤ (pos (2 ^ (width - 1)))) (pos (2 ^ (width - 1) - 1)) x (end_none (2 ^ (width - 1)))
    (end_some (2 ^ (width - 1) - 1)) (λ k. even (ap (λ (z : ℤ). unsigned_abs z % 2) g.number_is ∙ k)) in
    record {
      number_is = h.number_is ∙ ap (λ (w : Whole). w.number) e;
      status_is = h.status_is ∙ ap (λ (w : Whole). w.status) e;
    }

-- ---- integers in

-- the sign of an integer is whether it is below 0
pub negative_is : (z : ℤ) → int_lt z (pos 0) ≡ sign_of false z
negative_is (pos zero) = less_not (pos 0) (pos 0) (omega (arith, ints))
negative_is (pos (suc n)) = less_not (pos (suc n)) (pos 0) (omega (arith, ints))
negative_is (negsuc n) = less_so (negsuc n) (pos 0) (omega (arith, ints))
