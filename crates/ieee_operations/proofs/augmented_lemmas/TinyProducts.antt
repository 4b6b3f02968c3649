-- Augmented products that have digits below the quantum: the head and the tail, from whether twice the product has such
-- digits too.
use Rattle.std.proofs.Common.{◌≡◌, ℕ, ◌+◌, ◌-◌, ◌*◌, ◌^◌, ◌<◌, ◌≤◌, ◌⊎◌, Bool, true, false, ltb, eqb, if◌then◌else◌}
use Rattle.std.proofs.Common.{sym, ap, ◌∙◌, subst, inl, inr, ⊎_elim, arith, lit<}
use Rattle.std.proofs.Math.Nat.{mul-le-mul_right, mul-le-mul_left, le_of_mul-le-mul_right, lt_of_mul-lt-mul_right}
use Rattle.std.proofs.lemmas.{Bool.cases_lt, Bool.false≢true, Bool.le-ltb, Bool.ne_eqb, Int.ints, Nat.pow_pos}
use Rattle.std.specs.Prelude.{ℤ, pos, ◌+ℤ◌, ◌-ℤ◌, ◌*ℤ◌}
use Rattle.std.specs.Bool.{MatchBool}
use Rattle.apfloat_model.specs.{formats.Lawful.Constants, formats.Lawful.format_with, rounding.Grid.IsOnGrid}
use Rattle.apfloat_model.specs.declared.kinds.Round.{Round, TheVariants.NearestTiesToEven, TheVariants.TowardZero}
use Rattle.apfloat_model.specs.formats.Format.{Format, largest, greatest_significand}
use Rattle.apfloat_model.specs.formats.Datum.{Datum, finite, infinite, nan}
use Rattle.apfloat_model.specs.rounding.Rounding.{IsPick, signed_quanta, ok_bits, underflow_bit, inexact_bit}
use Rattle.apfloat_model.specs.arithmetic.{Signs.abs, Products.IsProduct, Scaling.IsScaling}
use Rattle.apfloat_model.specs.arithmetic.Exact.{magnitude, signed, sign_of, product_sign, IsRounded}
use Rattle.apfloat_model.specs.order.{Classes.is_finite, Classes.is_negative, Order.number, Order.is_equal}
use Rattle.apfloat_model.proofs.arithmetic.Signs.{magnitude_signed, one_side}
use Rattle.apfloat_model.proofs.formats.{Greatest.greatest_half, Ranges.below_top, Ranges.half_within}
use Rattle.apfloat_model.proofs.general.Powers.{twice_half, twice_power, half_at_most}
use Rattle.apfloat_model.proofs.rounding.Laws.{delivered_once, exact_delivered, pick_within}
use Rattle.apfloat_model.proofs.whole_numbers.SignedProducts.{sum_times, magnitude-mul, magnitude-times, signed_times}
use Rattle.apfloat_pair_theory.proofs.{numbers.WholeProducts.whole_product, pairs.Normalised.is_equal_by}
use Rattle.apfloat_pair_theory.proofs.numbers.{Roundings.signed_exact, Roundings.signed_apart, Signed.on_grid_as}
use Rattle.ieee_operations.specs.augmented.{Numbers.IsTwiceLeft, Numbers.HasRoundedTail, TiesToZero.IsTiesToZeroPick}
use Rattle.ieee_operations.specs.augmented.Augmented.{left_of, IsPastLargest, IsWithTail, IsAugmentedProduct}
use Rattle.ieee_operations.specs.augmented.Numbers.{HasNumber, IsAugmentedNumber, IsNearProduct, LeavesDigits}
use Rattle.ieee_operations.proofs.augmented_lemmas.{Cases.HasCaseRanges, FractionPicks.IsFractionPick}
use Rattle.ieee_operations.proofs.augmented_lemmas.{FractionRoundings.whole_is_exact, Heads.ArePicks, Heads.picks_of}
use Rattle.ieee_operations.proofs.augmented_lemmas.FractionPicks.{IsHalfPast, distance, below_fraction, gap, odd_half}
use Rattle.ieee_operations.proofs.augmented_lemmas.FractionPicks.{tie_of_quanta, from_even_in, pick_cases, half_pick}
use Rattle.ieee_operations.proofs.augmented_lemmas.FractionPicks.{half_short, low_pick, distance_fraction}
use Rattle.ieee_operations.proofs.augmented_lemmas.FractionPicks.{distance_half, distance_half_past, distance_at_most}
use Rattle.ieee_operations.proofs.augmented_lemmas.FractionRoundings.{rest_of_product, rest_rounded, small_product}
use Rattle.ieee_operations.proofs.augmented_lemmas.Multiples.{sign_some}
use Rattle.ieee_operations.proofs.augmented_lemmas.Numbers.{signed_number, same_number, within_is, fraction_exactly}
use Rattle.ieee_operations.proofs.augmented_lemmas.Numbers.{ok_parts, quanta_in, abs_has, equal_numbers}
use Rattle.ieee_operations.proofs.augmented_lemmas.ProductCases.{product_of_numbers, product_some, rounded_in}
use Rattle.ieee_operations.proofs.augmented_lemmas.TiesToZero.{short_is_below}

-- ---- sizes

-- the square of the power past the significands is within the largest value
square_within : (f : Format) → 3 ≤ f.precision → f.precision < f.span → 2 ^ f.precision * 2 ^ f.precision ≤ largest f
square_within f h w =
    let b = mul-le-mul_left (greatest_significand f.nonfinite f.precision) (half_at_most f.precision f.span w) in
    omega (arith, mul-le-mul_right (2 ^ f.precision) (greatest_half f.nonfinite f.precision h), b)

-- a significand whose unit is below 1 can be doubled
double_within : (f : Format) → 3 ≤ f.precision → f.scale < f.span → (n : ℕ) (g : IsOnGrid f.precision n)
    → g.place < f.scale → 2 * n ≤ largest f
double_within f h w n g q =
    let a = below_top f g.significand (g.place + 1) h g.fits (omega (arith, w, q)) in
    let b : g.significand * 2 ^ (g.place + 1) ≡ g.significand * (2 * 2 ^ g.place) =
    ap (λ (x : ℕ). g.significand * x) (twice_power g.place) in
    omega (arith, a, b, g.is)

-- ---- what is known of a product with digits below the quantum

-- its size, and that of one factor
pub record IsSmallProduct (f : Format) (x y : Datum) : Type 0 where
  pub low : magnitude (number x *ℤ number y) < 2 ^ f.precision * (2 ^ (f.precision - 1) * 2 ^ f.scale)
  pub double : 2 * magnitude (number x) ≤ largest f

abbrev pub exact_of : Datum → Datum → ℤ
exact_of x y = number x *ℤ number y

abbrev pub sign_of_product : Datum → Datum → Bool
sign_of_product x y = sign_of (product_sign (is_negative x) (is_negative y)) (number x *ℤ number y)

-- the picks to nearest and toward zero, as data
pub record IsTiny (f : Format) (x y near short : Datum) : Type 0 where
  pub precise : 3 ≤ f.precision
  pub wide : f.precision < f.span
  pub product : IsNearProduct f x y near
  pub near_in : IsAugmentedNumber f near
  pub fraction : IsFractionPick (magnitude (exact_of x y)) (2 ^ f.scale)
  pub size : IsSmallProduct f x y
  pub picks : ArePicks f (sign_of_product x y) (magnitude (exact_of x y)) (2 ^ f.scale) near short

-- What the rounding of an integral number of quanta leaves is exact.
exact_whole : (f : Format) → 3 ≤ f.precision → (x y near : Datum) → IsNearProduct f x y near → IsAugmentedNumber f near
    → LeavesDigits f x y near → (whole : ℤ) → (whole *ℤ pos (2 ^ f.scale)) ≡ exact_of x y → ⊥
exact_whole f h x y near a nn lost whole w =
    lost.not_ok (whole_is_exact f h x y near lost.rest a.status lost.status whole a.left.is_in a.right.is_in nn
    (product_some f x y a.left a.right) a.is lost.is w)

-- so the product is none
no_whole : (f : Format) → 3 ≤ f.precision → (x y near : Datum) → IsNearProduct f x y near → IsAugmentedNumber f near
    → LeavesDigits f x y near → IsFractionPick (magnitude (exact_of x y)) (2 ^ f.scale)
no_whole f h x y near a nn lost = record {
  not_whole = λ whole e.
      let w : (signed (sign_of_product x y) whole *ℤ pos (2 ^ f.scale)) ≡ (number x *ℤ number y) =
      sym (signed_times (sign_of_product x y) whole (2 ^ f.scale)) ∙ ap (λ (n : ℕ). signed (sign_of_product x y) n) e
      ∙ signed_exact (product_sign (is_negative x) (is_negative y)) (number x *ℤ number y) in
      exact_whole f h x y near a nn lost (signed (sign_of_product x y) whole) w;
}

small : (f : Format) → 3 ≤ f.precision → f.scale < f.span → (x y near : Datum) → IsNearProduct f x y near
    → IsAugmentedNumber f near → LeavesDigits f x y near → IsSmallProduct f x y
small f h w x y near a nn lost =
    let g = a.left.is_in.on_grid in
    let j = a.right.is_in.on_grid in
    ⊎_elim
    (λ (q : g.place + j.place < f.scale).
    let l = small_product f.precision f.scale (magnitude (number x)) (magnitude (number y)) (omega (arith, h)) g j q in
    let m = magnitude-mul (number x) (number y) in
    record { low = omega (arith, l, m); double = double_within f h w (magnitude (number x)) g (omega (arith, q)) })
    (λ (q : f.scale ≤ g.place + j.place).
    let v = whole_product f.precision f.scale (number x) (number y) g j q in
    absurd (exact_whole f h x y near a nn lost v.0 v.1.is))
    (cases_lt (g.place + j.place) f.scale)

pub tiny_of : (c : Constants) → HasCaseRanges c → (x y near short : Datum) (j : ℕ)
    → IsNearProduct (format_with c) x y near → IsAugmentedNumber (format_with c) near
    → LeavesDigits (format_with c) x y near → IsProduct (format_with c) TowardZero x y short j
    → IsTiny (format_with c) x y near short
tiny_of c r x y near short j a nn lost shorter =
    let f = format_with c in
    record {
      precise = r.precision;
      wide = r.wide;
      product = a;
      near_in = nn;
      fraction = no_whole f r.precision x y near a nn lost;
      size = small f r.precision r.scale x y near a nn lost;
      picks = picks_of f (product_sign (is_negative x) (is_negative y)) (exact_of x y) (2 ^ f.scale) near short
          a.status j (pow_pos f.scale) (rounded_in f NearestTiesToEven x y near near a.status a a.is)
          (rounded_in f TowardZero x y near short j a shorter) nn.is_finite;
    }

-- ---- twice what the product toward zero leaves

signed_double : (s : Bool) (m : ℕ) → signed s (m * 2) ≡ (signed s m +ℤ signed s m)
signed_double true m = omega (arith, ints)
signed_double false m = omega (arith, ints)

doubled_has : (f : Format) (x double : Datum) → IsAugmentedNumber f x → 2 * magnitude (number x) ≤ largest f
    → IsScaling f NearestTiesToEven x (pos 1) double → HasNumber (number x +ℤ number x) double
doubled_has f (finite b m) double n l h =
    let g = n.on_grid in
    let e : magnitude (signed b m) ≡ m = magnitude_signed b m in
    let w : m * 2 ≡ g.significand * 2 ^ (g.place + 1) =
    let d : g.significand * 2 ^ (g.place + 1) ≡ g.significand * (2 * 2 ^ g.place) =
    ap (λ (i : ℕ). g.significand * i) (twice_power g.place) in
    omega (arith, g.is, d, e) in
    let o : IsOnGrid f.precision (m * 2) =
    record { significand = g.significand; place = g.place + 1; fits = g.fits; is = w } in
    let r = delivered_once f NearestTiesToEven b _ _ double (signed_quanta f.nonfinite b (m * 2)) h.0 ok_bits h.1
    (exact_delivered f NearestTiesToEven b (m * 2) _ _ (lit< tt) o (omega (arith, l, e)) (omega arith)) in
    let k = signed_number f.nonfinite b (m * 2) in
    same_number (signed b m +ℤ signed b m) double _ r.0
    (record { is_finite = k.is_finite; number_is = k.number_is ∙ signed_double b m })
doubled_has f (infinite b) double n l h = absurd (false≢true n.is_finite)
doubled_has f (nan b s) double n l h = absurd (false≢true n.is_finite)

twice_left_is : (a b : ℤ) → ((a +ℤ a) -ℤ (b +ℤ b)) ≡ ((a -ℤ b) +ℤ (a -ℤ b))
twice_left_is a b = omega (arith, ints)

magnitude_double : (z : ℤ) → magnitude (z +ℤ z) ≡ 2 * magnitude z
magnitude_double z = omega (arith, ints, one_side z, one_side (z +ℤ z))

-- twice what a head leaves is rounded once
twice_rounded : (f : Format) (x y head left : Datum) (k : ℕ) → IsAugmentedNumber f x → is_finite y ≡ true
    → IsAugmentedNumber f head → 2 * magnitude (number x) ≤ largest f → 2 * magnitude (number head) ≤ largest f
    → IsTwiceLeft f x y head left k → (of_zero : Bool) × IsRounded f NearestTiesToEven of_zero
    (rest_of_product f x y head +ℤ rest_of_product f x y head) (2 ^ f.scale) left k
twice_rounded f x y head left k nx q nh lx lh t =
    let a = doubled_has f x t.double nx lx t.is_double in
    let b = doubled_has f head t.double_head nh lh t.is_double_head in
    let r = rest_rounded f NearestTiesToEven t.double y t.double_head left k a.is_finite q b.is_finite t.is_left in
    let e : (number t.double *ℤ number y) ≡ ((number x *ℤ number y) +ℤ (number x *ℤ number y)) =
    ap (λ (i : ℤ). i *ℤ number y) a.number_is ∙ sum_times (number x) (number x) (number y) in
    let d : (number t.double_head *ℤ pos (2 ^ f.scale))
    ≡ ((number head *ℤ pos (2 ^ f.scale)) +ℤ (number head *ℤ pos (2 ^ f.scale))) =
    ap (λ (i : ℤ). i *ℤ pos (2 ^ f.scale)) b.number_is ∙ sum_times (number head) (number head) (pos (2 ^ f.scale)) in
    let w : rest_of_product f t.double y t.double_head ≡ (rest_of_product f x y head +ℤ rest_of_product f x y head) =
    ap (λ (i : ℤ). i -ℤ (number t.double_head *ℤ pos (2 ^ f.scale))) e
    ∙ ap (λ (i : ℤ). ((number x *ℤ number y) +ℤ (number x *ℤ number y)) -ℤ i) d
    ∙ twice_left_is (number x *ℤ number y) (number head *ℤ pos (2 ^ f.scale)) in
    (r.0, subst (λ (i : ℤ). IsRounded f NearestTiesToEven r.0 i (2 ^ f.scale) left k) w r.1)

-- what a head of `pick` quanta leaves of the product, and its magnitude
rest_is : (f : Format) (x y head : Datum) (s : Bool) (pick : ℕ) → number head ≡ signed s pick
    → rest_of_product f x y head ≡ left_of (exact_of x y) (2 ^ f.scale) s pick
rest_is f x y head s pick e =
    ap (λ (i : ℤ). (number x *ℤ number y) -ℤ (i *ℤ pos (2 ^ f.scale))) e ∙
    ap (λ (i : ℤ). (number x *ℤ number y) -ℤ i) (sym (signed_times s pick (2 ^ f.scale)))

left_magnitude : (of_zero : Bool) (exact : ℤ) (parts pick : ℕ)
    → magnitude (left_of exact parts (sign_of of_zero exact) pick) ≡ distance pick (magnitude exact) parts
left_magnitude of_zero exact parts pick =
    ap (λ (i : ℤ). magnitude (i -ℤ signed (sign_of of_zero exact) (pick * parts))) (sym (signed_exact of_zero exact)) ∙
    signed_apart (sign_of of_zero exact) (magnitude exact) (pick * parts)

signed_twice : (s : Bool) (a b c : ℕ) → 2 * a ≡ 2 * b + c
    → signed s c ≡ ((signed s a -ℤ signed s b) +ℤ (signed s a -ℤ signed s b))
signed_twice true a b c e = omega (arith, ints, e)
signed_twice false a b c e = omega (arith, ints, e)

module _ (f : Format) (x y near short left : Datum) (k : ℕ) (t : IsTiny f x y near short)
    (twice : IsTwiceLeft f x y short left k) where
  parts_some : 0 < 2 ^ f.scale
  parts_some = pow_pos f.scale

  lower_below : t.picks.lower ≡ t.picks.is_even.below
  lower_below =
      short_is_below f.precision (sign_of_product x y) (magnitude (exact_of x y)) (2 ^ f.scale) t.picks.even
      t.picks.lower t.picks.is_even t.picks.is_lower

  lower_parts : t.picks.lower * 2 ^ f.scale ≡ t.picks.is_even.below * 2 ^ f.scale
  lower_parts = ap (λ (i : ℕ). i * 2 ^ f.scale) lower_below

  short_number : number short ≡ signed (sign_of_product x y) t.picks.lower
  short_number = ap number t.picks.short_is ∙ (signed_number f.nonfinite (sign_of_product x y) t.picks.lower).number_is

  short_in : IsAugmentedNumber f short
  short_in =
      quanta_in f (sign_of_product x y) t.picks.lower short
      (on_grid_as (sym lower_below) t.picks.is_even.is_below.on_grid) t.picks.lower_within t.picks.short_is

  -- the head toward zero is below 2 ^ (2 * precision - 1) quanta, so it can be doubled
  short_double : 2 * magnitude (number short) ≤ largest f
  short_double =
      let e = ap magnitude short_number ∙ magnitude_signed (sign_of_product x y) t.picks.lower in
      let b = lower_parts in
      let d' : t.picks.lower * 2 ^ f.scale < 2 ^ f.precision * 2 ^ (f.precision - 1) * 2 ^ f.scale =
      omega (arith, t.picks.is_even.is_below.not_above, b, t.size.low) in
      let d : t.picks.lower < 2 ^ f.precision * 2 ^ (f.precision - 1) = lt_of_mul-lt-mul_right (2 ^ f.scale) d' in
      let w : 2 ^ f.precision * (2 * 2 ^ (f.precision - 1)) ≡ 2 ^ f.precision * 2 ^ f.precision =
      ap (λ (i : ℕ). 2 ^ f.precision * i) (twice_half f.precision (omega (arith, t.precise))) in
      omega (arith, e, d, square_within f t.precise t.wide, w)

  rounded : (of_zero : Bool) × IsRounded f NearestTiesToEven of_zero
      (rest_of_product f x y short +ℤ rest_of_product f x y short) (2 ^ f.scale) left k
  rounded =
      twice_rounded f x y short left k t.product.left.is_in t.product.right.is_in.is_finite short_in t.size.double
      short_double twice

  lower_apart : t.picks.is_even.above ≤ t.picks.is_even.below + 2 ^ (f.precision - 1)
  lower_apart =
      gap f.precision (magnitude (exact_of x y)) (2 ^ f.scale) t.picks.is_even.below t.picks.is_even.above
      (omega (arith, t.precise)) parts_some t.size.low t.picks.is_even.is_below t.picks.is_even.is_above

  -- if that is exact, twice the product is an integral number of quanta
  pub twice_of_ok : k ≡ ok_bits
      → 2 * magnitude (exact_of x y) ≡ (2 * t.picks.lower + magnitude (number left)) * 2 ^ f.scale
  twice_of_ok o =
      let h = ok_parts f NearestTiesToEven rounded.0 _ (2 ^ f.scale) left k rounded.1 o in
      let e : magnitude (number left) * 2 ^ f.scale ≡ 2 * magnitude (rest_of_product f x y short) =
      sym (magnitude-times (number left) (2 ^ f.scale)) ∙ ap magnitude h.parts_are ∙
      magnitude_double (rest_of_product f x y short) in
      let r : magnitude (rest_of_product f x y short) ≡ distance t.picks.lower (magnitude (exact_of x y))
      (2 ^ f.scale) = ap magnitude (rest_is f x y short (sign_of_product x y) t.picks.lower short_number)
      ∙ left_magnitude (product_sign (is_negative x) (is_negative y)) (exact_of x y) (2 ^ f.scale) t.picks.lower in
      let b = lower_parts in
      omega (arith, e, r, t.picks.is_even.is_below.not_above, b)

  -- if twice the product is an integral number of quanta, that is exact
  twice_is_ok : (j : ℕ) → j < 2 ^ f.precision
      → 2 * magnitude (exact_of x y) ≡ (2 * t.picks.lower + j) * 2 ^ f.scale → k ≡ ok_bits
  twice_is_ok j l e =
      let s = sign_of_product x y in
      let g : IsOnGrid f.precision j = record { significand = j; place = 0; fits = l; is = omega arith } in
      let m : j ≡ magnitude (signed (sign_of_product x y) j) = sym (magnitude_signed (sign_of_product x y) j) in
      let b : j * 2 ^ 0 ≤ largest f = below_top f j 0 t.precise l (omega (arith, t.wide)) in
      let d : rest_of_product f x y short
      ≡ (signed s (magnitude (exact_of x y)) -ℤ signed s (t.picks.lower * 2 ^ f.scale)) =
      rest_is f x y short s t.picks.lower short_number ∙ ap (λ (i : ℤ). i -ℤ signed s (t.picks.lower * 2 ^ f.scale))
      (sym (signed_exact (product_sign (is_negative x) (is_negative y)) (exact_of x y))) in
      let w : (signed (sign_of_product x y) j *ℤ pos (2 ^ f.scale))
      ≡ (rest_of_product f x y short +ℤ rest_of_product f x y short) =
      sym (signed_times (sign_of_product x y) j (2 ^ f.scale)) ∙
      signed_twice (sign_of_product x y) (magnitude (exact_of x y)) (t.picks.lower * 2 ^ f.scale) (j * 2 ^ f.scale)
      (omega (arith, e)) ∙ ap (λ (i : ℤ). i +ℤ i) (sym d) in
      (fraction_exactly f NearestTiesToEven rounded.0 (signed (sign_of_product x y) j) _ (2 ^ f.scale) left k parts_some
      (on_grid_as m g) (subst (λ (i : ℕ). i ≤ largest f) m (omega (arith, b))) w rounded.1).status_is

  -- so if that is not exact, twice the product is not an integral number of quanta
  pub not_half_of : (k ≡ ok_bits → ⊥) → (m : ℕ) → 2 * magnitude (exact_of x y) ≡ m * 2 ^ f.scale → ⊥
  not_half_of lost m e =
      let a = t.picks.is_even.is_below.not_above in
      let b = lower_parts in
      let c' : 2 * t.picks.lower * 2 ^ f.scale ≤ m * 2 ^ f.scale = omega (arith, a, b, e) in
      let c : 2 * t.picks.lower ≤ m = le_of_mul-le-mul_right c' parts_some in
      let d : m ≡ 2 * t.picks.lower + (m - 2 * t.picks.lower) = omega (arith, c) in
      let d' : m * 2 ^ f.scale ≡ (2 * t.picks.lower + (m - 2 * t.picks.lower)) * 2 ^ f.scale =
      ap (λ (i : ℕ). i * 2 ^ f.scale) d in
      let hi = below_fraction f.precision t.picks.is_even.above (magnitude (exact_of x y)) (2 ^ f.scale) t.fraction
      t.picks.is_even.is_above in
      let v' : m * 2 ^ f.scale < (2 * t.picks.is_even.below + 2 * 2 ^ (f.precision - 1)) * 2 ^ f.scale =
      omega (arith, e, hi, mul-le-mul_right (2 ^ f.scale) lower_apart) in
      let v : m < 2 * t.picks.is_even.below + 2 * 2 ^ (f.precision - 1) = lt_of_mul-lt-mul_right (2 ^ f.scale) v' in
      let w = twice_half f.precision (omega (arith, t.precise)) in
      let z = lower_below in
      lost (twice_is_ok (m - 2 * t.picks.lower) (omega (arith, v, w, z, c)) (omega (arith, e, d')))

  -- ---- the heads

  -- if it is exactly one quantum, the product is half a quantum past the lower neighbour, which is the head
  pub pick_short : k ≡ ok_bits → magnitude (number left) ≡ 1
      → IsTiesToZeroPick f.precision (magnitude (exact_of x y)) (2 ^ f.scale) t.picks.lower
  pick_short o one =
      let e' : (2 * t.picks.lower + magnitude (number left)) * 2 ^ f.scale ≡ (2 * t.picks.lower + 1) * 2 ^ f.scale =
      ap (λ (i : ℕ). (2 * t.picks.lower + i) * 2 ^ f.scale) one in
      let b = lower_parts in
      subst (λ (i : ℕ). IsTiesToZeroPick f.precision (magnitude (exact_of x y)) (2 ^ f.scale) i) (sym lower_below)
      (low_pick f.precision t.picks.is_even.below t.picks.is_even.above (magnitude (exact_of x y)) (2 ^ f.scale)
      parts_some t.picks.is_even.is_below t.picks.is_even.is_above (omega (arith, twice_of_ok o, e', b)))

  -- a tie leaves one quantum exactly
  tie_leaves : 2 * magnitude (exact_of x y) ≡ (t.picks.even + t.picks.is_even.below) * 2 ^ f.scale
      → (k ≡ ok_bits → ⊥) ⊎ (magnitude (number left) ≡ 1 → ⊥) → ⊥
  tie_leaves e (inl lost) = not_half_of lost (t.picks.even + t.picks.is_even.below) e
  tie_leaves e (inr other) =
      ⊎_elim
      (λ (h : t.picks.even ≡ t.picks.is_even.above).
      let h' : (t.picks.even + t.picks.is_even.below) * 2 ^ f.scale
      ≡ (t.picks.is_even.above + t.picks.is_even.below) * 2 ^ f.scale =
      ap (λ (i : ℕ). (i + t.picks.is_even.below) * 2 ^ f.scale) h in
      let w = tie_of_quanta f.precision t.picks.is_even.below t.picks.is_even.above (magnitude (exact_of x y))
      (2 ^ f.scale) (omega (arith, t.precise)) parts_some t.fraction t.picks.is_even.is_below t.picks.is_even.is_above
      (omega (arith, e, h')) in
      let w' : t.picks.is_even.above * 2 ^ f.scale ≡ (t.picks.is_even.below + 1) * 2 ^ f.scale =
      ap (λ (i : ℕ). i * 2 ^ f.scale) w in
      let b = lower_parts in
      let half : 2 * magnitude (exact_of x y) ≡ (2 * t.picks.lower + 1) * 2 ^ f.scale = omega (arith, e, h', w', b) in
      let one : 1 < 2 ^ f.precision =
      let p : 2 * 2 ^ (f.precision - 1) ≡ 2 ^ f.precision = twice_half f.precision (omega (arith, t.precise)) in
      let q : 0 < 2 ^ (f.precision - 1) = pow_pos (f.precision - 1) in
      omega (arith, p, q) in
      let again = twice_of_ok (twice_is_ok 1 one half) in
      let l : magnitude (number left) * 2 ^ f.scale ≤ 1 * 2 ^ f.scale = omega (arith, half, again) in
      let g : 1 * 2 ^ f.scale ≤ magnitude (number left) * 2 ^ f.scale = omega (arith, half, again) in
      other (omega (arith, le_of_mul-le-mul_right l parts_some, le_of_mul-le-mul_right g parts_some)))
      (λ (h : t.picks.even ≡ t.picks.is_even.below).
      let h' : (t.picks.even + t.picks.is_even.below) * 2 ^ f.scale
      ≡ (t.picks.is_even.below + t.picks.is_even.below) * 2 ^ f.scale =
      ap (λ (i : ℕ). (i + t.picks.is_even.below) * 2 ^ f.scale) h in
      t.fraction.not_whole t.picks.is_even.below (omega (arith, e, h')))
      (pick_cases f.precision (sign_of_product x y) (magnitude (exact_of x y)) (2 ^ f.scale) t.picks.even
      t.picks.is_even)

  -- otherwise the head is the product to nearest
  pub pick_near : (k ≡ ok_bits → ⊥) ⊎ (magnitude (number left) ≡ 1 → ⊥)
      → IsTiesToZeroPick f.precision (magnitude (exact_of x y)) (2 ^ f.scale) t.picks.even
  pick_near lost =
      from_even_in f.precision (sign_of_product x y) (magnitude (exact_of x y)) (2 ^ f.scale) t.picks.even
      t.picks.is_even (λ e. tie_leaves e lost)

  -- ---- the tails

  at_most : (pick : ℕ) → (pick ≡ t.picks.is_even.above) ⊎ (pick ≡ t.picks.is_even.below)
      → distance pick (magnitude (exact_of x y)) (2 ^ f.scale) ≤ 2 ^ (f.precision - 1) * 2 ^ f.scale
  at_most pick h =
      distance_at_most f.precision pick t.picks.is_even.below t.picks.is_even.above (magnitude (exact_of x y))
      (2 ^ f.scale) lower_apart t.picks.is_even.is_below.not_above t.picks.is_even.is_above.not_below h

  -- What a head leaves is rounded to nearest with ties toward zero, and inexact.
  tail_is : (given : Datum) (pick : ℕ) (mode : Round) → IsAugmentedNumber f given
      → given ≡ signed_quanta f.nonfinite (sign_of_product x y) pick → pick ≤ largest f
      → (pick ≡ t.picks.is_even.above) ⊎ (pick ≡ t.picks.is_even.below)
      → IsTiesToZeroPick f.precision (magnitude (exact_of x y)) (2 ^ f.scale) pick
      → ((negative : Bool) (amount q : ℕ) → amount ≡ distance pick (magnitude (exact_of x y)) (2 ^ f.scale)
      → IsPick f.precision mode negative amount (2 ^ f.scale) q → IsTiesToZeroPick f.precision amount (2 ^ f.scale) q)
      → (head tail : Datum) (status : ℕ) → HasRoundedTail f mode x y given head tail status
      → IsAugmentedProduct f x y head tail status
  tail_is given pick mode nh e l side p picks head tail status w₀ =
      let s = sign_of_product x y in
      let of_zero = product_sign (is_negative x) (is_negative y) in
      let r₀ = rest_rounded f mode x y given tail w₀.tail_status t.product.left.is_in.is_finite
      t.product.right.is_in.is_finite nh.is_finite w₀.tail_is in
      let n = ap number e ∙ (signed_number f.nonfinite (sign_of_product x y) pick).number_is in
      let z = left_of (exact_of x y) (2 ^ f.scale) (sign_of_product x y) pick in
      let r : IsRounded f mode r₀.0 (left_of (exact_of x y) (2 ^ f.scale) (sign_of_product x y) pick) (2 ^ f.scale) tail
      w₀.tail_status = subst (λ (i : ℤ). IsRounded f mode r₀.0 i (2 ^ f.scale) tail w₀.tail_status)
      (rest_is f x y given (sign_of_product x y) pick n) r₀.1 in
      let m = left_magnitude of_zero (exact_of x y) (2 ^ f.scale) pick in
      let c = distance_fraction pick (magnitude (exact_of x y)) (2 ^ f.scale) t.fraction in
      let differs : r.pick * 2 ^ f.scale ≡ magnitude z → ⊥ = λ d. c.not_whole r.pick (d ∙ m) in
      let some : 0 < magnitude z = ⊎_elim (λ (d : 0 < magnitude z). d)
      (λ (d : magnitude z ≤ 0). absurd (c.not_whole 0 (omega (arith, d, m)))) (cases_lt 0 (magnitude z)) in
      let within : r.pick ≤ largest f =
      tail_within mode (sign_of r₀.0 z) (magnitude z) r.pick (omega (arith, m, at_most pick side)) r.is_pick in
      let w : ltb (largest f) pick ≡ false = le-ltb (largest f) pick l in
      let b : eqb (r.pick * 2 ^ f.scale) (magnitude z) ≡ false = ne_eqb (r.pick * 2 ^ f.scale) (magnitude z) differs in
      let a : IsWithTail f s (exact_of x y) (2 ^ f.scale) pick head tail status =
      record {
        head_is = w₀.head_is ∙ e;
        quanta = r.pick;
        is_pick = picks (sign_of r₀.0 z) (magnitude z) r.pick m r.is_pick;
        tail_is = r.value_is ∙ within_is f mode (sign_of r₀.0 z) r.pick within ∙
            ap (λ (i : Bool). signed_quanta f.nonfinite i r.pick) (sign_some r₀.0 s z some);
        status_is = w₀.status_is ∙ sym (ap (λ (i : Bool). if i then ok_bits else underflow_bit + inexact_bit) b);
      } in
      product_of_numbers f x y head tail status t.product.left.is_in.is_finite t.product.right.is_in.is_finite
      (record {
        pick = pick;
        is_pick = p;
        is = subst (λ (i : Bool). MatchBool i (IsPastLargest f s head tail status)
            (IsWithTail f s (exact_of x y) (2 ^ f.scale) pick head tail status)) (sym w) a;
      }) where
        tail_within : (mode : Round) (negative : Bool) (amount q : ℕ) → amount ≤ 2 ^ (f.precision - 1) * 2 ^ f.scale
            → IsPick f.precision mode negative amount (2 ^ f.scale) q → q ≤ largest f
        tail_within mode negative amount q a u =
            let g : IsOnGrid f.precision (2 ^ (f.precision - 1)) =
            record {
              significand = 1;
              place = f.precision - 1;
              fits = let p = twice_half f.precision (omega (arith, t.precise)) in
                  let s : 0 < 2 ^ (f.precision - 1) = pow_pos (f.precision - 1) in omega (arith, p, s);
              is = omega arith;
            } in
            let w = (pick_within f.precision mode negative amount (2 ^ f.scale) q parts_some u).0 in
            omega (arith, u.is_above.least (2 ^ (f.precision - 1)) g a, w, half_within f t.precise)

  -- not halfway between two quanta, the tail is what the head leaves to nearest
  picks_even : (pick : ℕ) → (k ≡ ok_bits → ⊥) → (negative : Bool) (amount q : ℕ)
      → amount ≡ distance pick (magnitude (exact_of x y)) (2 ^ f.scale)
      → IsPick f.precision NearestTiesToEven negative amount (2 ^ f.scale) q
      → IsTiesToZeroPick f.precision amount (2 ^ f.scale) q
  picks_even pick lost negative amount q e u =
      from_even_in f.precision negative amount (2 ^ f.scale) q u
      (λ h.
      let d : 2 * distance pick (magnitude (exact_of x y)) (2 ^ f.scale) ≡ (q + u.below) * 2 ^ f.scale =
      ap (λ (i : ℕ). 2 * i) (sym e) ∙ h in
      let m = distance_half pick (magnitude (exact_of x y)) (2 ^ f.scale) (q + u.below) parts_some d in
      not_half_of lost m.0 m.1)

  -- halfway, it is what the head leaves toward zero
  picks_short : (pick : ℕ) → (pick ≡ t.picks.is_even.above) ⊎ (pick ≡ t.picks.is_even.below) → k ≡ ok_bits
      → (negative : Bool) (amount q : ℕ) → amount ≡ distance pick (magnitude (exact_of x y)) (2 ^ f.scale)
      → IsPick f.precision TowardZero negative amount (2 ^ f.scale) q
      → IsTiesToZeroPick f.precision amount (2 ^ f.scale) q
  picks_short pick side ok negative amount q e u =
      let i = odd_half (magnitude (exact_of x y)) (2 ^ f.scale) (2 * t.picks.lower + magnitude (number left)) t.fraction
      (twice_of_ok ok) in
      let d = distance_half_past pick (magnitude (exact_of x y)) (2 ^ f.scale) i.0 i.1 in
      let half : IsHalfPast d.0 amount (2 ^ f.scale) = ap (λ (n : ℕ). 2 * n) e ∙ d.1 in
      let l = at_most pick side in
      let w = twice_half f.precision (omega (arith, t.precise)) in
      let w' : 2 * 2 ^ (f.precision - 1) * 2 ^ f.scale ≡ 2 ^ f.precision * 2 ^ f.scale =
      ap (λ (n : ℕ). n * 2 ^ f.scale) w in
      let v : (2 * d.0 + 1) * 2 ^ f.scale ≤ 2 ^ f.precision * 2 ^ f.scale = omega (arith, half, e, l, w') in
      let fits : d.0 < 2 ^ f.precision = omega (arith, le_of_mul-le-mul_right v parts_some) in
      let same = half_short f.precision negative amount (2 ^ f.scale) d.0 q parts_some fits half u in
      subst (λ (n : ℕ). IsTiesToZeroPick f.precision amount (2 ^ f.scale) n) (sym same)
      (half_pick f.precision amount (2 ^ f.scale) d.0 (omega (arith, t.precise)) parts_some fits half)

  -- ---- the two results

  pub head_is_short : k ≡ ok_bits → magnitude (number left) ≡ 1 → (head tail : Datum) (status : ℕ)
      → HasRoundedTail f TowardZero x y short head tail status → IsAugmentedProduct f x y head tail status
  head_is_short ok one =
      tail_is short t.picks.lower TowardZero short_in t.picks.short_is t.picks.lower_within (inr lower_below)
      (pick_short ok one) (picks_short t.picks.lower (inr lower_below) ok)

  near_side : (t.picks.even ≡ t.picks.is_even.above) ⊎ (t.picks.even ≡ t.picks.is_even.below)
  near_side =
      pick_cases f.precision (sign_of_product x y) (magnitude (exact_of x y)) (2 ^ f.scale) t.picks.even t.picks.is_even

  pub head_is_near_tie : k ≡ ok_bits → (magnitude (number left) ≡ 1 → ⊥) → (head tail : Datum) (status : ℕ)
      → HasRoundedTail f TowardZero x y near head tail status → IsAugmentedProduct f x y head tail status
  head_is_near_tie ok other =
      tail_is near t.picks.even TowardZero t.near_in t.picks.near_is t.picks.even_within near_side
      (pick_near (inr other)) (picks_short t.picks.even near_side ok)

  pub head_is_near : (k ≡ ok_bits → ⊥) → (head tail : Datum) (status : ℕ)
      → HasRoundedTail f NearestTiesToEven x y near head tail status → IsAugmentedProduct f x y head tail status
  head_is_near lost =
      tail_is near t.picks.even NearestTiesToEven t.near_in t.picks.near_is t.picks.even_within near_side
      (pick_near (inl lost)) (picks_even t.picks.even lost)

  -- what is left is finite if its status is OK
  pub left_is_finite : k ≡ ok_bits → is_finite left ≡ true
  left_is_finite o = (ok_parts f NearestTiesToEven rounded.0 _ (2 ^ f.scale) left k rounded.1 o).is_finite

-- ---- whether it is one quantum

pub left_is_one : (f : Format) (left size unit : Datum) → is_finite left ≡ true → size ≡ abs f left
    → unit ≡ finite false 1 → is_equal size unit ≡ true → magnitude (number left) ≡ 1
left_is_one f left size unit p m u e =
    let a = abs_has f left p in
    let e' = subst (λ (d : Datum). is_equal d unit ≡ true) m e in
    let q = equal_numbers (abs f left) unit a.is_finite (ap is_finite u) e' in
    let w : pos (magnitude (number left)) ≡ pos 1 = sym a.number_is ∙ q ∙ ap number u in
    omega (arith, ints, w)

pub left_not_one : (f : Format) (left size unit : Datum) → is_finite left ≡ true → size ≡ abs f left
    → unit ≡ finite false 1 → is_equal size unit ≡ false → magnitude (number left) ≡ 1 → ⊥
left_not_one f left size unit p m u e one =
    let a = abs_has f left p in
    let e' = subst (λ (d : Datum). is_equal d unit ≡ false) m e in
    let q : number (abs f left) ≡ number unit = a.number_is ∙ ap pos one ∙ sym (ap number u) in
    false≢true (sym e' ∙ is_equal_by (abs f left) unit a.is_finite (ap is_finite u) q)
