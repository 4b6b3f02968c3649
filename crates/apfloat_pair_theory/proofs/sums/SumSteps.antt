-- The written steps of a pair's sum, on finite data whose magnitudes are at most a third of the largest value: each
-- step is finite, and is a rounding of numbers.
use Rattle.std.proofs.Common.{◌≡◌, ℕ, ◌+◌, ◌*◌, ◌^◌, ◌≤◌, true, sym, ap, ◌∙◌, subst}
use Rattle.std.proofs.{Common.arith, lemmas.Int.ints}
use Rattle.std.specs.Prelude.{ℤ, ◌+ℤ◌, ◌-ℤ◌}
use Rattle.apfloat_model.specs.declared.kinds.Round.TheVariants.{NearestTiesToEven}
use Rattle.apfloat_model.specs.declared.kinds.NonfiniteBehavior.TheVariants.{IEEE754}
use Rattle.apfloat_model.specs.formats.{Format.Format, Format.largest, Datum.Datum}
use Rattle.apfloat_model.specs.{rounding.Negation.negated, order.Classes.is_finite, order.Order.number}
use Rattle.apfloat_model.specs.arithmetic.{Exact.magnitude, Sums.IsSum, Sums.IsDifference}
use Rattle.apfloat_model.proofs.arithmetic.Signs.{one_side}
use Rattle.apfloat_pair_theory.proofs.numbers.Signed.{magnitude-neg, grown, magnitude_le, IsGridNumber}
use Rattle.apfloat_pair_theory.proofs.numbers.{Nearest.IsNearest, TwoSums.IsTwoSum, TwoSums.two_sum, TwoSums.first_at}
use Rattle.apfloat_pair_theory.proofs.numbers.{TwoSums.second_at, Roundings.IsRoundedTo}
use Rattle.apfloat_pair_theory.proofs.numbers.Roundings.{sum_within, difference_within, negated_finite, negated_number}
use Rattle.apfloat_pair_theory.proofs.sums.PairRoundings.{IsFastTwoSum, IsOpening, eighth, error_eighth, rest_small}

-- a step to nearest, with some flags
abbrev pub HasFlags : (ℕ → Type 0) → Type 0
HasFlags IsStep = (flags : ℕ) × IsStep flags

abbrev pub IsSumStep : Format → Datum → Datum → Datum → Type 0
IsSumStep format a c z = HasFlags (IsSum format NearestTiesToEven a c z)

abbrev pub IsDifferenceStep : Format → Datum → Datum → Datum → Type 0
IsDifferenceStep format a c z = HasFlags (IsDifference format NearestTiesToEven a c z)

-- the six steps of TwoSum
pub record IsTwoSumSteps (format : Format) (a c z q lost_of_c z_again gained lost : Datum) : Type 0 where
  pub sum : IsSumStep format a c z
  pub first : IsDifferenceStep format a z q
  pub second : IsSumStep format q c lost_of_c
  pub third : IsSumStep format q z z_again
  pub fourth : IsDifferenceStep format z_again a gained
  pub last : IsSumStep format lost_of_c (negated IEEE754 gained) lost

-- the six steps of TwoSum, and the two sums with the low parts
pub record IsOpeningSteps (format : Format) (a aa c cc z q lost_of_c z_again gained lost with_aa zz : Datum) : Type 0
  where
    pub six : IsTwoSumSteps format a c z q lost_of_c z_again gained lost
    pub with_first : IsSumStep format lost aa with_aa
    pub with_second : IsSumStep format with_aa cc zz

-- the three steps of Fast2Sum, which closes the sum
pub record IsClosingSteps (format : Format) (z zz h left low : Datum) : Type 0 where
  pub sum : IsSumStep format z zz h
  pub first : IsDifferenceStep format z h left
  pub last : IsSumStep format left zz low

-- ---- the same steps, as roundings of numbers

abbrev pub size : Datum → ℕ
size x = magnitude (number x)

-- the parts of an operand: the high part is at most `top`, and the low part at most a seventh of it
pub record IsSummand (format : Format) (top : ℕ) (a aa : Datum) : Type 0 where
  pub finite_high : is_finite a ≡ true
  pub finite_low : is_finite aa ≡ true
  pub on_grid : IsGridNumber format.precision (number a)
  pub within : size a ≤ top
  pub low_within : 7 * size aa ≤ top

-- the operands of the closing sum, bounded by parts of `top`
pub record IsAddend (top : ℕ) (z zz : Datum) : Type 0 where
  pub finite_sum : is_finite z ≡ true
  pub finite_rest : is_finite zz ≡ true
  pub sum_low : 4 * size z ≤ 9 * top
  pub rest_low : 4 * size zz ≤ 3 * top

-- the results of the six steps are finite
pub record AreFinite (z q lost_of_c z_again gained lost : Datum) : Type 0 where
  pub sum : is_finite z ≡ true
  pub first : is_finite q ≡ true
  pub second : is_finite lost_of_c ≡ true
  pub third : is_finite z_again ≡ true
  pub fourth : is_finite gained ≡ true
  pub last : is_finite lost ≡ true

-- the results of the six steps are roundings of the numbers
pub record IsTwoSumRounded (precision : ℕ) (a c z q lost_of_c z_again gained lost : Datum) : Type 0 where
  pub finite : AreFinite z q lost_of_c z_again gained lost
  pub roundings : IsTwoSum precision (number a) (number c) (number z) (number q) (number lost_of_c) (number z_again)
      (number gained) (number lost)

-- the results of the steps with the low parts are roundings of the numbers
pub record IsOpened (precision top : ℕ) (a aa c cc z q lost_of_c z_again gained lost with_aa zz : Datum) : Type 0 where
  pub finite : AreFinite z q lost_of_c z_again gained lost
  pub finite_middle : is_finite with_aa ≡ true
  pub addend : IsAddend top z zz
  pub roundings : IsOpening precision (number a) (number aa) (number c) (number cc) (number z) (number q)
      (number lost_of_c) (number z_again) (number gained) (number lost) (number with_aa) (number zz)

-- the results of the closing sum are roundings of the numbers
pub record IsClosedSum (precision : ℕ) (z zz h left low : Datum) : Type 0 where
  pub finite_high : is_finite h ≡ true
  pub finite_left : is_finite left ≡ true
  pub finite_low : is_finite low ≡ true
  pub roundings : IsFastTwoSum precision (number z) (number zz) (number h) (number left) (number low)

-- ---- the size of a rounded number

-- bounds of the exact third and fourth step, from the errors of the earlier steps
third_at : (a z q : ℤ) → magnitude (q +ℤ z) ≤ magnitude a + magnitude (q -ℤ (a -ℤ z))
third_at a z q = omega (arith, ints, one_side (q +ℤ z), one_side (q -ℤ (a -ℤ z)), one_side a)

fourth_at : (a z q r : ℤ) → magnitude (r -ℤ a) ≤ magnitude (r -ℤ (q +ℤ z)) + magnitude (q -ℤ (a -ℤ z))
fourth_at a z q r = omega (arith, ints, one_side (r -ℤ a), one_side (r -ℤ (q +ℤ z)), one_side (q -ℤ (a -ℤ z)))

-- ---- the bounds, in parts of `top`

-- the sum of two operands is at most twice `top`
sum_low : (t a c s : ℕ) → a ≤ t → c ≤ t → s ≤ a + c → s ≤ 2 * t
sum_low t a c s h l k = omega arith

-- the error of that sum, at most an eighth of it, is at most a quarter of `top`
error_low : (t e s : ℕ) → s ≤ 2 * t → 8 * e ≤ s → 4 * e ≤ t
error_low t e s h l = omega arith

-- the sum of an operand and such an error is at most twice `top`
with_error : (t c e s : ℕ) → c ≤ t → 4 * e ≤ t → s ≤ c + e → s ≤ 2 * t
with_error t c e s h l k = omega arith

-- the sum of two such errors is at most half of `top`
two_errors : (t i e s : ℕ) → 4 * i ≤ t → 4 * e ≤ t → s ≤ i + e → 2 * s ≤ t
two_errors t i e s h l k = omega arith

half_low : (t s : ℕ) → 2 * s ≤ t → s ≤ 2 * t
half_low t s h = omega arith

-- the rounded sum of two such errors is at most `top`
value_low : (t s e v : ℕ) → 2 * s ≤ t → 8 * e ≤ s → v ≤ s + e → v ≤ t
value_low t s e v h l k = omega arith

-- a magnitude of at most twice `top` is within the largest value
pub within_largest : (t l s : ℕ) → 3 * t ≤ l → s ≤ 2 * t → s ≤ l
within_largest t l s h k = omega arith

-- the error of the high parts plus the first low part is at most twice `top`
first_low : (t e aa s : ℕ) → 4 * e ≤ t → 7 * aa ≤ t → s ≤ e + aa → s ≤ 2 * t
first_low t e aa s h l k = omega arith

-- that sum, rounded, plus the second low part is at most two thirds of `top`
second_low : (t e aa s i x cc u : ℕ) → 4 * e ≤ t → 7 * aa ≤ t → s ≤ e + aa → 8 * i ≤ s → x ≤ s + i → 7 * cc ≤ t
    → u ≤ x + cc → (u ≤ 2 * t) × (3 * u ≤ 2 * t)
second_low t e aa s i x cc u h1 h2 h3 h4 h5 h6 h7 = (omega arith, omega arith)

-- a number of at most two thirds of `top`, rounded, is at most three quarters of `top`
rest_low_by : (t u j y : ℕ) → 3 * u ≤ 2 * t → 8 * j ≤ u → y ≤ u + j → 4 * y ≤ 3 * t
rest_low_by t u j y h l k = omega arith

-- the rounded sum of the high parts is at most nine quarters of `top`
sum_low_by : (t s e z : ℕ) → s ≤ 2 * t → 4 * e ≤ t → z ≤ s + e → 4 * z ≤ 9 * t
sum_low_by t s e z h l k = omega arith

-- the closing sum is at most three times `top`, and so within the largest value
closing_within : (t l z y s : ℕ) → 4 * z ≤ 9 * t → 4 * y ≤ 3 * t → s ≤ z + y → 3 * t ≤ l → (s ≤ l) × (s ≤ 3 * t)
closing_within t l z y s h1 h2 h3 h4 = (omega arith, omega arith)

-- the difference of z and h is at most twice `top`
closing_first : (t s e y u : ℕ) → s ≤ 3 * t → 8 * e ≤ s → 4 * y ≤ 3 * t → u ≤ y + e → u ≤ 2 * t
closing_first t s e y u h1 h2 h3 h4 = omega arith

-- the difference of z and h, plus zz, is at most twice `top`
closing_last : (t s e g u v : ℕ) → s ≤ 3 * t → 8 * e ≤ s → u ≤ 2 * t → 8 * g ≤ u → v ≤ g + e → v ≤ 2 * t
closing_last t s e g u v h1 h2 h3 h4 h5 = omega arith

-- ---- on data of at most `top`, a third of the largest value

module _ (format : Format) (kind : format.nonfinite ≡ IEEE754) (wide : 8 ≤ 2 ^ format.precision) (top : ℕ)
    (room : 3 * top ≤ largest format) where
  -- an exact sum or difference of at most twice `top` is rounded to a finite datum
  sum_of : (x y value : Datum) → is_finite x ≡ true → is_finite y ≡ true → magnitude (number x +ℤ number y) ≤ 2 * top
      → IsSumStep format x y value → IsRoundedTo format.precision (number x +ℤ number y) value
  sum_of x y value p q h s = sum_within format x y value s.0 kind p q (within_largest _ _ _ room h) s.1

  difference_of : (x y value : Datum) → is_finite x ≡ true → is_finite y ≡ true
      → magnitude (number x -ℤ number y) ≤ 2 * top → IsDifferenceStep format x y value
      → IsRoundedTo format.precision (number x -ℤ number y) value
  difference_of x y value p q h s = difference_within format x y value s.0 kind p q (within_largest _ _ _ room h) s.1

  -- a rounding is off by at most an eighth
  error_of : (exact : ℤ) (value : Datum) → IsRoundedTo format.precision exact value
      → 8 * magnitude (number value -ℤ exact) ≤ magnitude exact
  error_of exact value x = error_eighth format.precision wide exact (number value) x.nearest

  -- the sum of two data within a third of the largest value is finite
  pub first_finite : (a c z : Datum) (status : ℕ) → is_finite a ≡ true → is_finite c ≡ true → size a ≤ top
      → size c ≤ top → IsSum format NearestTiesToEven a c z status → is_finite z ≡ true
  first_finite a c z status fa fc la lc x =
      (sum_of a c z fa fc (sum_low _ _ _ _ la lc (magnitude_le (number a) (number c))) (status, x)).is_finite

  -- within a third of the largest value, no step overflows
  pub two_sum_rounded : (a c z q lost_of_c z_again gained lost : Datum) → is_finite a ≡ true
      → is_finite c ≡ true → size a ≤ top → size c ≤ top → IsTwoSumSteps format a c z q lost_of_c z_again gained lost
      → IsTwoSumRounded format.precision a c z q lost_of_c z_again gained lost
  two_sum_rounded a c z q v r d e fa fc la lc x =
      let s₀ = sum_low _ _ _ _ la lc (magnitude_le (number a) (number c)) in
      let nz = sum_of a c z fa fc s₀ x.sum in
      let ez = error_low _ _ _ s₀ (error_of _ _ nz) in
      let s₁ = with_error _ _ _ _ lc ez (first_at (number a) (number c) (number z)) in
      let nq = difference_of a z q fa nz.is_finite s₁ x.first in
      let eq = error_low _ _ _ s₁ (error_of _ _ nq) in
      let s₂ = two_errors _ _ _ _ eq ez (second_at (number a) (number c) (number z) (number q)) in
      let nv = sum_of q c v nq.is_finite fc (half_low _ _ s₂) x.second in
      let lv = value_low _ _ _ _ s₂ (error_of _ _ nv) (grown (number q +ℤ number c) (number v)) in
      let s₃ = with_error _ _ _ _ la eq (third_at (number a) (number z) (number q)) in
      let nr = sum_of q z r nq.is_finite nz.is_finite s₃ x.third in
      let er = error_low _ _ _ s₃ (error_of _ _ nr) in
      let s₄ = two_errors _ _ _ _ er eq (fourth_at (number a) (number z) (number q) (number r)) in
      let nd = difference_of r a d nr.is_finite fa (half_low _ _ s₄) x.fourth in
      let ld = value_low _ _ _ _ s₄ (error_of _ _ nd) (grown (number r -ℤ number a) (number d)) in
      let md = negated_number d nd.is_finite in
      let l₅ : size (negated IEEE754 d) ≤ top =
      subst (λ (n : ℕ). n ≤ top) (sym (ap magnitude md ∙ magnitude-neg (number d))) ld in
      let s₅ = sum_low _ _ _ _ lv l₅ (magnitude_le (number v) (number (negated IEEE754 d))) in
      let ne = sum_of v (negated IEEE754 d) e nv.is_finite (negated_finite d nd.is_finite) s₅ x.last in
      record {
        finite = record {
          sum = nz.is_finite;
          first = nq.is_finite;
          second = nv.is_finite;
          third = nr.is_finite;
          fourth = nd.is_finite;
          last = ne.is_finite;
        };
        roundings = record {
          sum = nz.nearest;
          first = nq.nearest;
          second = nv.nearest;
          third = nr.nearest;
          fourth = nd.nearest;
          last = subst (λ (i : ℤ). IsNearest format.precision (number v +ℤ i) (number e)) md ne.nearest;
        };
      }

  -- within a third of the largest value, the steps with the low parts do not overflow, and their results are within the
  -- bounds of the closing sum
  pub opened : (a aa c cc z q lost_of_c z_again gained lost with_aa zz : Datum) → IsSummand format top a aa
      → IsSummand format top c cc → IsOpeningSteps format a aa c cc z q lost_of_c z_again gained lost with_aa zz
      → IsOpened format.precision top a aa c cc z q lost_of_c z_again gained lost with_aa zz
  opened a aa c cc z q v r d e x y m n k =
      let t = two_sum_rounded a c z q v r d e m.finite_high n.finite_high m.within n.within k.six in
      let s₀ = sum_low _ _ _ _ m.within n.within (magnitude_le (number a) (number c)) in
      let is = two_sum format.precision wide _ _ _ _ _ _ _ _ m.on_grid n.on_grid t.roundings in
      let le = error_low _ _ _ s₀
      (eighth _ _ _ wide (rest_small format.precision wide (number a) (number c) _ _ t.roundings.sum is)) in
      let ez = error_low _ _ _ s₀ (error_eighth format.precision wide (number a +ℤ number c) _ t.roundings.sum) in
      let b₁ = magnitude_le (number e) (number aa) in
      let nx = sum_of e aa x t.finite.last m.finite_low (first_low _ _ _ _ le m.low_within b₁) k.with_first in
      let g = grown (number e +ℤ number aa) (number x) in
      let s₂ = second_low _ _ _ _ _ _ _ _ le m.low_within b₁ (error_of _ _ nx) g n.low_within
      (magnitude_le (number x) (number cc)) in
      let ny = sum_of x cc y nx.is_finite n.finite_low s₂.0 k.with_second in
      record {
        finite = t.finite;
        finite_middle = nx.is_finite;
        addend = record {
          finite_sum = t.finite.sum;
          finite_rest = ny.is_finite;
          sum_low = sum_low_by _ _ _ _ s₀ ez (grown (number a +ℤ number c) (number z));
          rest_low = rest_low_by _ _ _ _ s₂.1 (error_of _ _ ny) (grown (number x +ℤ number cc) (number y));
        };
        roundings = record { six = t.roundings; with_first = nx.nearest; with_second = ny.nearest };
      }

  -- h is the rounded closing sum
  pub high_rounded : (z zz h : Datum) (status : ℕ) → IsAddend top z zz → IsSum format NearestTiesToEven z zz h status
      → IsRoundedTo format.precision (number z +ℤ number zz) h
  high_rounded z y h status a x =
      let l = (closing_within _ _ _ _ _ a.sum_low a.rest_low (magnitude_le (number z) (number y)) room).0 in
      sum_within format z y h status kind a.finite_sum a.finite_rest l x

  -- h, z - h and the low part are finite, and are roundings of numbers
  pub closed : (z zz h left low : Datum) → IsAddend top z zz → IsClosingSteps format z zz h left low
      → IsClosedSum format.precision z zz h left low
  closed z y h g l a x =
      let s₀ = closing_within _ _ _ _ _ a.sum_low a.rest_low (magnitude_le (number z) (number y)) room in
      let nh = high_rounded z y h x.sum.0 a x.sum.1 in
      let eh = error_of _ _ nh in
      let s₁ = closing_first _ _ _ _ _ s₀.1 eh a.rest_low (first_at (number z) (number y) (number h)) in
      let ng = difference_of z h g a.finite_sum nh.is_finite s₁ x.first in
      let s₂ = closing_last _ _ _ _ _ _ s₀.1 eh s₁ (error_of _ _ ng)
      (second_at (number z) (number y) (number h) (number g)) in
      let nl = sum_of g y l ng.is_finite a.finite_rest s₂ x.last in
      record {
        finite_high = nh.is_finite;
        finite_left = ng.is_finite;
        finite_low = nl.is_finite;
        roundings = record { sum = nh.nearest; first = ng.nearest; last = nl.nearest };
      }
