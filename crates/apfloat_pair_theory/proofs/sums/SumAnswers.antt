-- The steps of the sum of two pairs of doubles: within reach, they are roundings that give a normalized pair.
use Rattle.std.proofs.Common.{◌≡◌, ℕ, if◌then◌else◌, Bool, true, false, refl}
use Rattle.std.specs.Prelude.{ℤ, ◌+ℤ◌}
use Rattle.apfloat_model.specs.{declared.kinds.Round.TheVariants.NearestTiesToEven, formats.Datum.Datum}
use Rattle.apfloat_model.specs.{order.Classes.same_datum, order.Order.number, arithmetic.Sums.IsSum}
use Rattle.apfloat_model.specs.declared.kinds.NonfiniteBehavior.TheVariants.{IEEE754}
use Rattle.apfloat_model.specs.rounding.{Rounding.ok_bits, Steps.ends, Steps.Leads, Negation.negated}
use Rattle.apfloat_pair_theory.specs.PairFormats.{double}
use Rattle.apfloat_pair_theory.specs.Pairs.{Pair, positive_zero, alone, pair_number, IsNormalised}
use Rattle.apfloat_pair_theory.specs.PairSums.{◌∪◌, closing, finite_sum, sum_of_numbers}
use Rattle.apfloat_pair_theory.specs.PairAccuracy.{IsOkOrInexact, sum_reach}
use Rattle.apfloat_pair_theory.proofs.numbers.{TwoSums.IsShared, Roundings.negated_finite}
use Rattle.apfloat_pair_theory.proofs.numbers.Statuses.{sum_status, difference_status, union_status}
use Rattle.apfloat_pair_theory.proofs.sums.{SumsSound.at_test, ClosingSums.is_ieee, PairRoundings.IsOpening}
use Rattle.apfloat_pair_theory.proofs.sums.SumSteps.{IsOpened, IsOpeningSteps, IsSummand, opened, first_finite}
use Rattle.apfloat_pair_theory.proofs.sums.ClosingSums.{wide_enough, digits, room, finite_is_not_infinite, IsClosable}
use Rattle.apfloat_pair_theory.proofs.sums.ClosingSums.{IsPairOf, given_pair, closed_pair, alone_pair, zero_number}

-- ---- the sum of two numbers

abbrev pub IsPairSummand : Pair → Type 0
IsPairSummand x = IsSummand double sum_reach x.high x.low

-- the roundings before the closing sum
abbrev pub IsPairOpening : Pair → Pair → ℤ → ℤ → ℤ → ℤ → ℤ → ℤ → ℤ → ℤ → Type 0
IsPairOpening x y z q v r d e u w =
    IsOpening double.precision (number x.high) (number x.low) (number y.high) (number y.low) z q v r d e u w

-- the operands of the closing sum are multiples of one unit
abbrev pub IsSharing : Pair → Pair → Type 0
IsSharing x y = (z q v r d e u w : ℤ) → IsPairOpening x y z q v r d e u w → IsShared double.precision z w

-- z and w from the roundings before the closing sum, and the result as their sum
pub record IsSummed (x y answer : Pair) (status : ℕ) : Type 0 where
  pub z : Datum
  pub q : Datum
  pub v : Datum
  pub r : Datum
  pub d : Datum
  pub e : Datum
  pub u : Datum
  pub w : Datum
  pub roundings : IsPairOpening x y (number z) (number q) (number v) (number r) (number d) (number e) (number u)
      (number w)
  pub normalised : IsNormalised answer
  pub number_is : pair_number answer ≡ number z +ℤ number w
  pub plain : IsOkOrInexact status

-- a sum whose rest is 0 is the result, any other is closed
answer_pair : (is_zero : Bool) (z zz : Datum) (flags : ℕ) (answer : Pair) (status : ℕ)
    → same_datum zz positive_zero ≡ is_zero → IsClosable z zz
    → Leads double NearestTiesToEven (if is_zero then ends (alone z) ok_bits else closing z zz flags) answer status
    → IsPairOf z zz flags answer status
answer_pair true z w flags answer status h a x =
    given_pair z w flags (alone z) ok_bits answer status x (alone_pair z w flags a (zero_number w h))
answer_pair false z w flags answer status h a x = closed_pair z w flags answer status a x

-- the seven steps before the closing sum raise at most INEXACT
opening_status : (x y : Pair) (z q v r d e u w : Datum) → IsPairSummand x → IsPairSummand y
    → (k : IsOpeningSteps double x.high x.low y.high y.low z q v r d e u w)
    → IsOpened double.precision sum_reach x.high x.low y.high y.low z q v r d e u w
    → IsOkOrInexact (k.six.first.0 ∪ k.six.second.0 ∪ k.six.third.0 ∪ k.six.fourth.0 ∪ k.six.last.0
    ∪ k.with_first.0 ∪ k.with_second.0)
opening_status x y z q v r d e u w a c k o =
    let f = o.finite in
    let s₁ = difference_status double x.high z q _ is_ieee digits a.finite_high f.sum f.first k.six.first.1 in
    let s₂ = sum_status double q y.high v _ is_ieee digits f.first c.finite_high f.second k.six.second.1 in
    let s₃ = sum_status double q z r _ is_ieee digits f.first f.sum f.third k.six.third.1 in
    let s₄ = difference_status double r x.high d _ is_ieee digits f.third a.finite_high f.fourth k.six.fourth.1 in
    let s₅ = sum_status double v (negated IEEE754 d) e _ is_ieee digits f.second (negated_finite d f.fourth) f.last
    k.six.last.1 in
    let s₆ = sum_status double e x.low u _ is_ieee digits f.last a.finite_low o.finite_middle k.with_first.1 in
    let s₇ = sum_status double u y.low w _ is_ieee digits o.finite_middle c.finite_low o.addend.finite_rest
    k.with_second.1 in
    union_status _ _
    (union_status _ _ (union_status _ _ (union_status _ _ (union_status _ _ (union_status _ _ s₁ s₂) s₃) s₄) s₅) s₆) s₇

-- the sum of two pairs whose high parts have a finite sum
finite_summed : (x y : Pair) (z : Datum) (z_flags : ℕ) (answer : Pair) (status : ℕ)
    → IsPairSummand x → IsPairSummand y → IsSharing x y → IsSum double NearestTiesToEven x.high y.high z z_flags
    → Leads double NearestTiesToEven (finite_sum x y z z_flags) answer status → IsSummed x y answer status
finite_summed x y z z_flags answer status a c sh s q =
    let v = q.3 in
    let r = v.3 in
    let d = r.3 in
    let e = d.3 in
    let u = e.3 in
    let w = u.3 in
    let k : IsOpeningSteps double x.high x.low y.high y.low z q.0 v.0 r.0 d.0 e.0 u.0 w.0 =
    record {
      six = record {
        sum = (z_flags, s);
        first = (q.1, q.2);
        second = (v.1, v.2);
        third = (r.1, r.2);
        fourth = (d.1, d.2);
        last = (e.1, e.2);
      };
      with_first = (u.1, u.2);
      with_second = (w.1, w.2);
    } in
    let o = opened double is_ieee wide_enough sum_reach room _ _ _ _ _ _ _ _ _ _ _ _ a c k in
    let m : IsClosable z w.0 =
    record {
      addend = o.addend;
      sum_on_grid = o.roundings.six.sum.on_grid;
      rest_on_grid = o.roundings.with_second.on_grid;
      shared = sh _ _ _ _ _ _ _ _ o.roundings;
    } in
    let z_status = sum_status double x.high y.high z z_flags is_ieee digits a.finite_high c.finite_high o.finite.sum
    s in
    let flags = union_status _ _ z_status (opening_status x y z q.0 v.0 r.0 d.0 e.0 u.0 w.0 a c k o) in
    let p = answer_pair (same_datum w.0 positive_zero) z w.0 _ answer status refl m w.3 in
    record {
      z = z;
      q = q.0;
      v = v.0;
      r = r.0;
      d = d.0;
      e = e.0;
      u = u.0;
      w = w.0;
      roundings = o.roundings;
      normalised = p.normalised;
      number_is = p.number_is;
      plain = p.plain flags;
    }

-- the sum of two pairs whose high parts are within reach
pub numbers_summed : (x y answer : Pair) (status : ℕ) → IsPairSummand x → IsPairSummand y → IsSharing x y
    → Leads double NearestTiesToEven (sum_of_numbers x y) answer status → IsSummed x y answer status
numbers_summed x y answer status a c sh (z, z_flags, is_z, is_answer) =
    let h = first_finite double is_ieee wide_enough sum_reach room x.high y.high z z_flags a.finite_high
    c.finite_high a.within c.within is_z in
    finite_summed x y z z_flags answer status a c sh is_z
    (at_test NearestTiesToEven _ false _ _ answer status (finite_is_not_infinite z h) is_answer)
