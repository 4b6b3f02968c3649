-- The written product of two pairs of doubles whose high parts are not zero: its steps are roundings, and they leave a
-- normalized pair.
use Rattle.std.proofs.{Common.subst, Common.arith, Common.lit≤, Math.Path.subst₂}
use Rattle.std.proofs.Common.{◌≡◌, ℕ, ◌+◌, ◌*◌, ◌^◌, ◌<◌, ◌≤◌, true, false, eqb, refl}
use Rattle.std.proofs.lemmas.Bool.{ne_eqb, lt-ltb, ltb-true, false≢true}
use Rattle.std.specs.Prelude.{ℤ, ◌+ℤ◌, ◌-ℤ◌, ◌*ℤ◌}
use Rattle.apfloat_model.specs.{declared.kinds.Category.TheVariants.Normal, formats.Format.largest}
use Rattle.apfloat_model.specs.{rounding.Steps.Leads, order.Classes.is_finite, order.Classes.is_finite_non_zero}
use Rattle.apfloat_model.specs.{order.Classes.category_of, order.Order.number, arithmetic.Exact.magnitude}
use Rattle.apfloat_model.specs.declared.kinds.{Round.TheVariants.NearestTiesToEven, Category.Category}
use Rattle.apfloat_model.specs.formats.Datum.{Datum, finite, infinite, nan}
use Rattle.apfloat_model.proofs.arithmetic.Signs.{magnitude_signed}
use Rattle.apfloat_pair_theory.specs.{PairProducts.IsPairProduct, PairAccuracy.sum_reach, PairFormats.double}
use Rattle.apfloat_pair_theory.specs.Pairs.{Pair, pair_number, IsNormalised, pair_category}
use Rattle.apfloat_pair_theory.specs.PairProducts.{number_product, product_of_numbers, product_of_categories}
use Rattle.apfloat_pair_theory.proofs.{numbers.WholeProducts.high_rounded, sums.SumSteps.size}
use Rattle.apfloat_pair_theory.proofs.numbers.{Signed.grown, Signed.magnitude-sub, Nearest.IsNearest, TwoSums.shared}
use Rattle.apfloat_pair_theory.proofs.sums.{SumSteps.within_largest, ClosingSums.is_ieee, ClosingSums.room}
use Rattle.apfloat_pair_theory.proofs.sums.{ClosingSums.IsClosable, ClosingSums.closed_pair, SumsSound.at_test}
use Rattle.apfloat_pair_theory.proofs.products.ProductSteps.{IsLostNumber, AreFactors, nearest_close, lost_numbers}
use Rattle.apfloat_pair_theory.proofs.products.ProductRanges.{IsInRange}

-- ---- categories

-- a nonzero finite datum has the category Normal
pub number_category : (datum : Datum) → is_finite_non_zero datum ≡ true → category_of datum ≡ Normal
number_category (finite b n) h =
    let p = ltb-true 0 n h in let q : eqb n 0 ≡ false = ne_eqb n 0 (λ z. omega (arith, p, z)) in rw q refl
number_category (infinite b) h = absurd (false≢true h)
number_category (nan b s) h = absurd (false≢true h)

-- a nonzero finite datum is finite
pub finite_number : (datum : Datum) → is_finite_non_zero datum ≡ true → is_finite datum ≡ true
finite_number (finite b n) h = refl
finite_number (infinite b) h = absurd (false≢true h)
finite_number (nan b s) h = absurd (false≢true h)

-- a finite datum with some quanta is nonzero
non_zero : (datum : Datum) → is_finite datum ≡ true → 0 < size datum → is_finite_non_zero datum ≡ true
non_zero (finite b n) h p = let e = magnitude_signed b n in lt-ltb 0 n (subst (λ (i : ℕ). 0 < i) e p)
non_zero (infinite b) h p = absurd (false≢true h)
non_zero (nan b s) h p = absurd (false≢true h)

-- for two nonzero numbers, the case of numbers applies
of_numbers : (x y answer : Pair) (status : ℕ) → pair_category x ≡ Normal → pair_category y ≡ Normal
    → IsPairProduct NearestTiesToEven x y answer status
    → Leads double NearestTiesToEven (product_of_numbers x y) answer status
of_numbers x y answer status e g s =
    subst₂
    (λ (i : Category) (j : Category). Leads double NearestTiesToEven (product_of_categories i j x y) answer status)
    e g s

-- ---- the result, from the roundings

-- `whole` quanta are the exact product of the high parts, and t the rounded one;
-- tau is what t lost, and the cross products
pub record IsProductNumber (x y : Pair) (whole : ℤ) (answer : Pair) : Type 0 where
  pub t : ℤ
  pub tau : ℤ
  pub t_is : IsNearest double.precision whole t
  pub lost : IsLostNumber double.precision double.scale whole (number x.high *ℤ number y.low)
      (number x.low *ℤ number y.high) t tau
  pub normalised : IsNormalised answer
  pub number_is : pair_number answer ≡ (t +ℤ tau)

-- finite parts, a nonzero high part, and a low part that is small relative to it
pub record IsFactor (x : Pair) : Type 0 where
  pub is_number : is_finite_non_zero x.high ≡ true
  pub finite_low : is_finite x.low ≡ true
  pub small : 64 * size x.low ≤ size x.high

-- doubles have at least 6 digits
sixty_four : 64 ≤ 2 ^ double.precision
sixty_four = lit≤ tt

-- a product far from 0 does not round to 0
some_left : (x e t : ℕ) → 64 * e ≤ x → 64 ≤ x → x ≤ t + e → 0 < t
some_left x e t h l k = omega arith

-- t and tau within the bounds of the closing sum
close_low : (x e t q top : ℕ) → 64 * e ≤ x → t ≤ x + e → x ≤ t + e → 8 * q ≤ x → x ≤ 2 * top
    → (q ≤ t) × (4 * t ≤ 9 * top) × (4 * q ≤ 3 * top)
close_low x e t q top h₁ h₂ h₃ h₄ h₅ = (omega arith, omega arith, omega arith)

-- a number is within its rounded value and the error
reached : (x t : ℤ) → magnitude x ≤ magnitude t + magnitude (t -ℤ x)
reached x t = omega (arith, grown t x, magnitude-sub x t)

-- the steps after the product of the high parts
from_steps : (x y : Pair) (t : Datum) (flags : ℕ) (answer : Pair) (status : ℕ) (whole : ℤ) → IsFactor x → IsFactor y
    → IsInRange (number x.high) (number y.high) whole → is_finite t ≡ true → IsNearest double.precision whole (number t)
    → Leads double NearestTiesToEven (number_product x y t flags) answer status → IsProductNumber x y whole answer
from_steps x y t flags answer status whole a c r is_number nearest lost =
    let v = lost.3 in
    let w = v.3 in
    let cross = w.3 in
    let tau = cross.3 in
    let e = nearest_close double.precision whole (number t) sixty_four nearest in
    let g : AreFactors double whole x.high x.low y.high y.low =
    record {
      finite_a = finite_number x.high a.is_number;
      finite_b = a.finite_low;
      finite_c = finite_number y.high c.is_number;
      finite_d = c.finite_low;
      whole = r.whole;
      within = within_largest sum_reach (largest double) (magnitude whole) room r.within;
      some = r.some;
      low_first = a.small;
      low_second = c.small;
    } in
    let n = lost_numbers double is_ieee sixty_four whole x.high x.low y.high y.low t lost.0 v.0 w.0 cross.0 tau.0 g
    is_number nearest
    record {
      is_lost = (lost.1, lost.2);
      is_v = (v.1, v.2);
      is_w = (w.1, w.2);
      is_cross = (cross.1, cross.2);
      is_tau = (tau.1, tau.2);
    } in
    let b = close_low _ _ _ _ sum_reach e (grown whole (number t)) (reached whole (number t)) n.small r.within in
    let m : IsClosable t tau.0 =
    record {
      addend = record { finite_sum = is_number; finite_rest = n.is_finite; sum_low = b.1; rest_low = b.2 };
      sum_on_grid = nearest.on_grid;
      rest_on_grid = n.number_is.tau_is.on_grid;
      shared = shared double.precision (number t) (number tau.0) nearest.on_grid n.number_is.tau_is.on_grid b.0;
    } in
    let q = closed_pair t tau.0 _ answer status m tau.3 in
    record {
      t = number t;
      tau = number tau.0;
      t_is = nearest;
      lost = n.number_is;
      normalised = q.normalised;
      number_is = q.number_is;
    }

-- within range, no step overflows, and the closing sum loses nothing
pub product_numbers : (x y answer : Pair) (status : ℕ) (whole : ℤ) → IsFactor x → IsFactor y
    → IsInRange (number x.high) (number y.high) whole
    → IsPairProduct NearestTiesToEven x y answer status → IsProductNumber x y whole answer
product_numbers x y answer status whole a c r s =
    multiplied (of_numbers x y answer status (number_category x.high a.is_number)
    (number_category y.high c.is_number) s) where
      multiplied : Leads double NearestTiesToEven (product_of_numbers x y) answer status
          → IsProductNumber x y whole answer
      multiplied (t, t_flags, is_t, is_answer) =
          let l = within_largest sum_reach (largest double) (magnitude whole) room r.within in
          let n = high_rounded double x.high y.high t t_flags whole is_ieee (finite_number x.high a.is_number)
          (finite_number y.high c.is_number) r.whole l is_t in
          let e = nearest_close double.precision whole (number t) sixty_four n.nearest in
          from_steps x y t t_flags answer status whole a c r n.is_finite n.nearest
          (at_test NearestTiesToEven _ true _ _ answer status
          (non_zero t n.is_finite (some_left _ _ _ e r.some (reached whole (number t)))) is_answer)
