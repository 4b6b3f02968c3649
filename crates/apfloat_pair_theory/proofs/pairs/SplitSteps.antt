-- The rest of a wide number beyond its high part, in three steps: the high part is widened again, subtracted in the
-- wide format, and the difference is converted to a double. Each step is exact.
use Rattle.std.proofs.Common.{◌≡◌, ℕ, zero, suc, ◌*◌, ◌^◌, ◌<◌, ◌≤◌, Bool, true, false, not}
use Rattle.std.proofs.Common.{refl, sym, ap, ◌∙◌, subst, le_trans, arith, lit≤}
use Rattle.std.proofs.lemmas.{Nat.pow_pos, Bool.false≢true, Int.ints}
use Rattle.std.specs.Prelude.{ℤ, pos, ◌+ℤ◌, ◌-ℤ◌}
use Rattle.apfloat_model.specs.{declared.kinds.Round.TheVariants.NearestTiesToEven, formats.Format.largest}
use Rattle.apfloat_model.specs.formats.{Datum.Datum, Datum.finite, Datum.infinite, Datum.nan, Members.IsMember}
use Rattle.apfloat_model.specs.{formats.Members.IsFiniteOf, rounding.Rounding.ok_bits, rounding.Grid.IsOnGrid}
use Rattle.apfloat_model.specs.order.Classes.{is_finite, is_finite_non_zero}
use Rattle.apfloat_model.specs.arithmetic.Exact.{magnitude, signed, sign_of, IsRounded}
use Rattle.apfloat_model.specs.arithmetic.{Sums.IsSum, Sums.IsDifference, Sums.zero_sum_sign, Conversions.IsConversion}
use Rattle.apfloat_model.proofs.arithmetic.{ExactConversions.exactly_converted, Signs.magnitude_signed}
use Rattle.apfloat_model.proofs.{rounding.Laws.delivered_once, whole_numbers.SignedNumbers.negated_is}
use Rattle.apfloat_pair_theory.specs.{PairFormats.double, PairFormats.wide, Pairs.IsWidened, Pairs.left_over}
use Rattle.apfloat_pair_theory.proofs.numbers.Signed.{magnitude-sub, IsGridNumber, on_grid_as}
use Rattle.apfloat_pair_theory.proofs.numbers.WholeProducts.{product_error_on_grid}
use Rattle.apfloat_pair_theory.proofs.numbers.Roundings.{finite_is, signed_not, IsRoundedTo}
use Rattle.apfloat_pair_theory.proofs.sums.{PairRoundings.error_eighth, ClosingSums.wide_enough}
use Rattle.apfloat_pair_theory.proofs.pairs.Normalised.{rounded_exactly}
use Rattle.apfloat_pair_theory.proofs.pairs.SplitLaws.{delivered_whole, high_rounded_to, number_converted, wide_number}
use Rattle.apfloat_pair_theory.proofs.products.ProductAnswers.{finite_number}

-- the rest of a wide number beyond its high part, in three steps
pub record IsRestBySteps (x high low : Datum) (status : ℕ) : Type 0 where
  pub is_wide : IsMember wide x
  pub is_double : IsMember double high
  pub loses_info : Bool
  pub high_is : IsConversion wide double NearestTiesToEven x high status loses_info
  pub widened : Datum
  pub widened_is : IsWidened high widened
  pub rest : Datum
  pub rest_status : ℕ
  pub rest_is : IsDifference wide NearestTiesToEven x widened rest rest_status
  pub low_status : ℕ
  pub low_loses_info : Bool
  pub low_is : IsConversion wide double NearestTiesToEven rest low low_status low_loses_info

-- ---- a double is a wide number

-- the grid of doubles is within that of the wide format
pub more_digits : (n : ℕ) → IsOnGrid double.precision n → IsOnGrid wide.precision n
more_digits n g = let powers : 2 ^ double.precision ≤ 2 ^ wide.precision = lit≤ tt in record {
  significand = g.significand;
  place = g.place;
  fits = le_trans g.fits powers;
  is = g.is;
}

-- a double in the wide format is the same datum
pub widened_same : (negative : Bool) (n : ℕ) (value : Datum) → IsFiniteOf double negative n
    → IsWidened (finite negative n) value → value ≡ finite negative n
widened_same b n value m w =
    let t : IsFiniteOf wide b n = record {
      on_grid = more_digits n m.on_grid;
      within = le_trans m.within (lit≤ tt);
      zero_has = λ z. refl;
    } in
    let c = exactly_converted double wide NearestTiesToEven (finite b n) value w.status w.loses_info w.is_conversion in
    (c n refl t).value_is

-- ---- the difference

-- an exact difference of two numbers of the same sign is +0 if it is zero
no_zero_sign : (negative : Bool) → zero_sum_sign NearestTiesToEven negative (not negative) ≡ false
no_zero_sign true = refl
no_zero_sign false = refl

-- adding a number with the opposite sign subtracts it
plus_negated : (negative : Bool) (m n : ℕ)
    → (signed negative m +ℤ signed (not negative) n) ≡ (signed negative m -ℤ signed negative n)
plus_negated b m n = let e = signed_not b n in omega (arith, ints, e)

-- the difference of numbers of the same sign is rounded once
difference_rounded : (negative : Bool) (m n : ℕ) (value : Datum) (status : ℕ)
    → IsDifference wide NearestTiesToEven (finite negative m) (finite negative n) value status
    → IsRounded wide NearestTiesToEven false (signed negative m -ℤ signed negative n) 1 value status
difference_rounded b m n value status d =
    let s : IsSum wide NearestTiesToEven (finite b m) (finite (not b) n) value status =
    subst (λ (i : Datum). IsSum wide NearestTiesToEven (finite b m) i value status) (negated_is b n) d in
    subst (λ (z : Bool). IsRounded wide NearestTiesToEven z (signed b m -ℤ signed b n) 1 value status) (no_zero_sign b)
    (subst (λ (e : ℤ). IsRounded wide NearestTiesToEven (zero_sum_sign NearestTiesToEven b (not b)) e 1 value status)
    (plus_negated b m n) s)

-- a difference that the wide format has is exact
difference_exactly : (negative : Bool) (m n : ℕ) (value : Datum) (status : ℕ)
    → IsGridNumber wide.precision (signed negative m -ℤ signed negative n)
    → magnitude (signed negative m -ℤ signed negative n) ≤ largest wide
    → IsDifference wide NearestTiesToEven (finite negative m) (finite negative n) value status
    → value ≡ left_over (finite negative m) (finite negative n)
difference_exactly b m n value status g l d =
    let e = signed b m -ℤ signed b n in
    (delivered_once wide NearestTiesToEven (sign_of false (signed b m -ℤ signed b n))
    (magnitude (signed b m -ℤ signed b n)) 1 value
    (left_over (finite b m) (finite b n)) status ok_bits (difference_rounded b m n value status d)
    (rounded_exactly wide false (signed b m -ℤ signed b n) refl g l)).0

-- ---- the rest of the high part is a double

-- the rest is on the grid of doubles and within their range
record IsSmallRest (negative : Bool) (m n : ℕ) : Type 0 where
  on_grid : IsGridNumber double.precision (signed negative m -ℤ signed negative n)
  within : magnitude (signed negative m -ℤ signed negative n) ≤ largest double

-- an eighth of a wide number is within the largest double
pub eighth_within : (e m l w : ℕ) → 8 * e ≤ m → m ≤ w → w ≤ 8 * l → e ≤ l
eighth_within e m l w h k i = omega arith

-- the rest of a wide number beyond its high part is on the grid of doubles and within their range
small_rest : (negative : Bool) (m n : ℕ) → IsFiniteOf wide negative m
    → IsRoundedTo double.precision (signed negative m) (finite negative n) → IsSmallRest negative m n
small_rest b m n t r =
    let v = magnitude-sub (signed b n) (signed b m) in
    let o = product_error_on_grid double.precision wide_enough 0 (signed b m) (pos 1) (signed b m) (signed b n)
    (wide_number b m t.on_grid) r.nearest in
    let a = error_eighth double.precision wide_enough (signed b m) (signed b n) r.nearest in
    let a' : 8 * magnitude (signed b m -ℤ signed b n) ≤ m = omega (arith, a, v, magnitude_signed b m) in
    record {
      on_grid = on_grid_as v o;
      within = eighth_within _ m (largest double) (largest wide) a' t.within (lit≤ tt);
    }

-- the subtraction and the conversion keep the rest unchanged
rest_exactly : (negative : Bool) (m n : ℕ) (rest low : Datum) (rest_status low_status : ℕ) (loses_info : Bool)
    → IsSmallRest negative m n
    → IsDifference wide NearestTiesToEven (finite negative m) (finite negative n) rest rest_status
    → IsConversion wide double NearestTiesToEven rest low low_status loses_info
    → low ≡ left_over (finite negative m) (finite negative n)
rest_exactly b m n rest low rest_status low_status loses_info s d c =
    let e = difference_exactly b m n rest rest_status (more_digits _ s.on_grid) (le_trans s.within (lit≤ tt)) d in
    let c' = subst (λ (i : Datum). IsConversion wide double NearestTiesToEven i low low_status loses_info) e c in
    let x = exactly_converted wide double NearestTiesToEven (left_over (finite b m) (finite b n)) low low_status
    loses_info c' in
    (x (magnitude (signed b m -ℤ signed b n)) refl
    (record { on_grid = s.on_grid; within = s.within; zero_has = λ z. refl })).value_is

-- ---- the high part is finite, and so is the wide number

-- for a nonzero number, the steps compute the rest
some_rest : (negative : Bool) (m : ℕ) (high low : Datum) (status : ℕ) → 0 < m → is_finite high ≡ true
    → IsRestBySteps (finite negative m) high low status → low ≡ left_over (finite negative m) high
some_rest b m high low status p f s =
    let k = number_converted b m high status s.loses_info p s.high_is in
    let w = delivered_whole double b m (2 ^ double.scale) high status (pow_pos double.scale) k.is_delivered in
    let n = k.is_delivered.pick in
    let e : high ≡ finite b n = finite_is double b n high refl f k.is_delivered.value_is in
    let r = subst (λ (d : Datum). IsRoundedTo double.precision (signed b m) d) e
    (high_rounded_to b m high w.0 p f w.1) in
    let u : s.widened ≡ finite b n = widened_same b n s.widened (subst (λ (d : Datum). IsMember double d) e s.is_double)
    (subst (λ (d : Datum). IsWidened d s.widened) e s.widened_is) in
    let d = subst (λ (i : Datum). IsDifference wide NearestTiesToEven (finite b m) i s.rest s.rest_status) u
    s.rest_is in
    let z = rest_exactly b m n s.rest low s.rest_status s.low_status s.low_loses_info
    (small_rest b m n s.is_wide r) d s.low_is in
    subst (λ (i : Datum). low ≡ left_over (finite b m) i) (sym e) z

-- the steps compute the rest that the model defines (`left_over`)
pub rest_by_steps : (x high low : Datum) (status : ℕ) → is_finite_non_zero high ≡ true
    → IsRestBySteps x high low status → low ≡ left_over x high
rest_by_steps (finite b zero) high low status f s =
    absurd (false≢true (ap is_finite_non_zero (sym s.high_is.value_is) ∙ f))
rest_by_steps (finite b (suc m)) high low status f s =
    some_rest b (suc m) high low status (omega arith) (finite_number high f) s
rest_by_steps (infinite b) high low status f s =
    absurd (false≢true (ap is_finite_non_zero (sym s.high_is.value_is) ∙ f))
rest_by_steps (nan b q) high low status f s = absurd (false≢true (ap is_finite_non_zero (sym s.high_is.value_is) ∙ f))

-- ---- a split by steps
