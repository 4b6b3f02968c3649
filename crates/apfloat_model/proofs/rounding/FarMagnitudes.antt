-- Magnitudes so far out of the range of a format that only their side matters.
use Rattle.std.proofs.Common.{◌≡◌, ℕ, ◌+◌, ◌-◌, ◌*◌, ◌^◌, ◌<◌, ◌≤◌, Bool, true, false}
use Rattle.std.proofs.Common.{cond, ltb, leb, eqb, sym, refl, ap, ◌∙◌, subst, inl, arith, zero, suc}
use Rattle.std.proofs.Math.Nat.{mul-le-mul_right, mul-lt-mul_of_pos_right, pow-le-pow_right}
use Rattle.std.proofs.lemmas.{Nat.pow-add, Nat.pow_pos, Bool.lt-ltb, Bool.le-leb, Bool.ne_eqb}
use Rattle.apfloat_model.specs.declared.{kinds.Round.Round, loss.Loss.TheVariants.LessThanHalf}
use Rattle.apfloat_model.specs.formats.Format.{Format, largest, greatest_significand, smallest_normalized}
use Rattle.apfloat_model.specs.{formats.Datum.Datum, rounding.Grid.IsOnGrid, rounding.Rounding.IsPick}
use Rattle.apfloat_model.specs.rounding.Rounding.{IsDelivered, delivered_value, delivered_status, rounds_below_normal}
use Rattle.apfloat_model.specs.rounding.{Rounding.is_tiny, Enclosure.IsEnclosed, Enclosure.rounds_up}
use Rattle.apfloat_model.proofs.general.{Powers.two_pos, Powers.twice_half, Choices.cond_within}
use Rattle.apfloat_model.proofs.formats.Greatest.{greatest_fits}
use Rattle.apfloat_model.proofs.rounding.Picks.{kept, pick_is, pick_unique}
use Rattle.apfloat_model.proofs.rounding.{Laws.pick_within, Laws.delivered_exists, Neighbours.multiple_on_grid}

-- at or above the power of two past every value
pub record IsFarAbove (format : Format) (amount parts : ℕ) : Type 0 where
  pub some : 0 < parts
  pub from : 2 ^ (format.precision + format.span) * parts ≤ amount

-- above 0 and below half a quantum
pub record IsFarBelow (amount parts : ℕ) : Type 0 where
  pub some : 0 < amount
  pub to : 2 * amount < parts

-- ---- above

-- the largest value is below the power of two that is past all numbers
pub largest_below : (format : Format) → largest format < 2 ^ (format.precision + format.span)
largest_below format =
    let a : greatest_significand format.nonfinite format.precision * 2 ^ format.span
    < 2 ^ format.precision * 2 ^ format.span =
    mul-lt-mul_of_pos_right (greatest_fits format.nonfinite format.precision) (pow_pos format.span) in
    subst (λ (x : ℕ). greatest_significand format.nonfinite format.precision * 2 ^ format.span < x)
    (sym (pow-add 2 format.precision format.span)) a

-- each power of two is on the grid
pub power_on_grid : (precision k : ℕ) → 0 < precision → IsOnGrid precision (2 ^ k)
power_on_grid precision k h =
    let l : 1 ≤ precision = h in
    let a : 2 ^ 1 ≤ 2 ^ precision = pow-le-pow_right two_pos l in
    record { significand = 1; place = k; fits = omega arith; is = omega arith }

-- so is the largest value
pub largest_on_grid : (format : Format) → IsOnGrid format.precision (largest format)
largest_on_grid format =
    multiple_on_grid format.precision (greatest_significand format.nonfinite format.precision) format.span
    (greatest_fits format.nonfinite format.precision)

-- whatever is picked is past the largest value
pub picks_past : (format : Format) (mode : Round) (negative : Bool) (amount parts p : ℕ) → 0 < format.precision
    → IsFarAbove format amount parts → IsPick format.precision mode negative amount parts p
    → ltb (largest format) p ≡ true
picks_past format mode negative amount parts p h x i =
    let b : 2 ^ (format.precision + format.span) ≤ i.below = i.is_below.greatest (2 ^ (format.precision + format.span))
    (power_on_grid format.precision (format.precision + format.span) h) x.from in
    let d : i.below ≤ p = (pick_within format.precision mode negative amount parts p x.some i).1 in
    lt-ltb (largest format) p (omega (arith, largest_below format, b, d))

-- all picks past the largest value deliver one value
value_past : (format : Format) (mode : Round) (negative : Bool) (p q : ℕ) → ltb (largest format) p ≡ true
    → ltb (largest format) q ≡ true → delivered_value format mode negative p ≡ delivered_value format mode negative q
value_past format mode negative p q a b = rw (a, b) refl

-- all picks past the largest value deliver one status
status_past : (format : Format) (mode : Round) (negative : Bool) (amount parts p amount' parts' q : ℕ)
    → ltb (largest format) p ≡ true → ltb (largest format) q ≡ true
    → delivered_status format mode negative amount parts p ≡ delivered_status format mode negative amount' parts' q
status_past format mode negative amount parts p amount' parts' q a b = rw (a, b) refl

-- all magnitudes far above have one result
pub far_above : (format : Format) (mode : Round) (negative : Bool) (amount parts amount' parts' : ℕ) (value : Datum)
    (status : ℕ) → 0 < format.precision → IsFarAbove format amount parts → IsFarAbove format amount' parts'
    → IsDelivered format mode negative amount parts value status
    → IsDelivered format mode negative amount' parts' value status
far_above format mode negative amount parts amount' parts' v s h x y d =
    let e = (delivered_exists format mode negative amount' parts' h y.some).1.1 in
    let a = picks_past format mode negative amount parts d.pick h x d.is_pick in
    let b = picks_past format mode negative amount' parts' e.pick h y e.is_pick in
    record {
      pick = e.pick;
      is_pick = e.is_pick;
      value_is = d.value_is ∙ value_past format mode negative d.pick e.pick a b;
      status_is = d.status_is ∙ status_past format mode negative amount parts d.pick amount' parts' e.pick a b;
    }

-- ---- below

-- below half a quantum, the significand is 0
little_enclosed : (precision amount parts : ℕ) → 0 < precision → IsFarBelow amount parts
    → IsEnclosed precision (2 ^ (precision - 1)) 0 0 amount parts
little_enclosed precision amount parts h x =
    let l = x.to in
    record {
      double = sym (twice_half precision h);
      fits = pow_pos precision;
      full = inl refl;
      from = omega arith;
      to = omega (arith, l);
    }

-- 0 or one quantum, as the mode and the sign say
pub little_pick : Round → Bool → ℕ
little_pick mode negative = kept mode negative LessThanHalf 0 * 2 ^ 0

-- for a magnitude below half a quantum, the mode and the sign alone decide the pick
pub picks_little : (precision : ℕ) (mode : Round) (negative : Bool) (amount parts : ℕ) → 0 < precision
    → IsFarBelow amount parts → IsPick precision mode negative amount parts (little_pick mode negative)
unfolding little_pick
picks_little precision mode negative amount parts h x =
    let l = x.to in let k = x.some in
    pick_is precision mode negative (2 ^ (precision - 1)) 0 0 amount parts LessThanHalf (omega (arith, l))
    (little_enclosed precision amount parts h x) (omega (arith, k), omega (arith, l))

-- that pick is at most one quantum
little_within : (mode : Round) (negative : Bool) → little_pick mode negative ≤ 1
unfolding little_pick
little_within mode negative =
    let within = cond_within (rounds_up mode negative LessThanHalf (eqb 0 1)) 1 0 (omega arith) in
    omega (arith, within.0)

-- neither 0 nor one quantum is the magnitude
off_little : (p amount parts : ℕ) → p ≤ 1 → 0 < amount → 2 * amount < parts → p * parts ≡ amount → ⊥
off_little zero amount parts h k l e = omega arith
off_little (suc zero) amount parts h k l e = omega arith
off_little (suc (suc p)) amount parts h k l e = omega arith

-- the pick for a magnitude below half a quantum is not exact
inexact_little : (amount parts p : ℕ) → IsFarBelow amount parts → p ≤ 1 → eqb (p * parts) amount ≡ false
inexact_little amount parts p x h = ne_eqb (p * parts) amount (off_little p amount parts h x.some x.to)

-- a magnitude below half a quantum is below the smallest normalized number
before_little : (format : Format) (amount parts : ℕ) → IsFarBelow amount parts
    → ltb amount (smallest_normalized format * parts) ≡ true
before_little format amount parts x =
    let a : 1 * parts ≤ 2 ^ (format.precision - 1) * parts = mul-le-mul_right parts (pow_pos (format.precision - 1)) in
    lt-ltb amount (smallest_normalized format * parts) (omega (arith, x.to, a))

-- a magnitude below half a quantum, rounded with an unbounded exponent, is below the smallest normalized number
below_little : (precision : ℕ) (mode : Round) (negative : Bool) (amount parts : ℕ) → 0 < precision
    → IsFarBelow amount parts → rounds_below_normal precision mode negative amount parts ≡ true
below_little precision mode negative amount parts h x =
    let l = x.to in
    let d : 2 * 2 ^ (precision - 1) ≡ 2 ^ precision = twice_half precision h in
    let v : 0 < 2 ^ (precision - 1) = pow_pos (precision - 1) in
    let w : 1 ≤ 2 ^ precision - 1 = omega arith in
    let b : leb (2 * amount) ((2 ^ precision - 1) * parts) ≡ true =
    le-leb (2 * amount) ((2 ^ precision - 1) * parts) (omega (arith, l, mul-le-mul_right parts w)) in
    rw b refl

-- all magnitudes below half a quantum are tiny, or none are
tiny_little : (format : Format) (mode : Round) (negative : Bool) (amount parts amount' parts' p : ℕ)
    → 0 < format.precision → IsFarBelow amount parts → IsFarBelow amount' parts'
    → is_tiny format mode negative amount parts p ≡ is_tiny format mode negative amount' parts' p
tiny_little format mode negative amount parts amount' parts' p h x y =
    let b = before_little format amount' parts' y in
    let c = below_little format.precision mode negative amount parts h x in
    let d = below_little format.precision mode negative amount' parts' h y in
    ap (λ (z : Bool). cond format.tiny_before_rounding z
    (cond format.ieee_flags (rounds_below_normal format.precision mode negative amount parts)
    (ltb p (smallest_normalized format)))) (before_little format amount parts x ∙ sym b)
    ∙ ap (λ (z : Bool). cond format.tiny_before_rounding (ltb amount' (smallest_normalized format * parts'))
    (cond format.ieee_flags z (ltb p (smallest_normalized format)))) (c ∙ sym d)

-- all magnitudes below half a quantum deliver one status
status_little : (format : Format) (mode : Round) (negative : Bool) (amount parts amount' parts' p : ℕ) → p ≤ 1
    → 0 < format.precision → IsFarBelow amount parts → IsFarBelow amount' parts'
    → delivered_status format mode negative amount parts p ≡ delivered_status format mode negative amount' parts' p
status_little format mode negative amount parts amount' parts' p h q x y =
    let t = tiny_little format mode negative amount parts amount' parts' p q x y in
    rw (inexact_little amount parts p x h, inexact_little amount' parts' p y h, t) refl

-- all magnitudes far below have one result
pub far_below : (format : Format) (mode : Round) (negative : Bool) (amount parts amount' parts' : ℕ) (value : Datum)
    (status : ℕ) → 0 < format.precision → IsFarBelow amount parts → IsFarBelow amount' parts'
    → IsDelivered format mode negative amount parts value status
    → IsDelivered format mode negative amount' parts' value status
far_below format mode negative amount parts amount' parts' v s h x y d =
    let p : ℕ = little_pick mode negative in
    let e : d.pick ≡ little_pick mode negative = pick_unique format.precision mode negative amount parts d.pick
    (little_pick mode negative) d.is_pick (picks_little format.precision mode negative amount parts h x) in
    record {
      pick = little_pick mode negative;
      is_pick = picks_little format.precision mode negative amount' parts' h y;
      value_is = d.value_is ∙ ap (λ (z : ℕ). delivered_value format mode negative z) e;
      status_is =
          d.status_is ∙ ap (λ (z : ℕ). delivered_status format mode negative amount parts z) e
          ∙ status_little format mode negative amount parts amount' parts' (little_pick mode negative)
          (little_within mode negative) h x y;
    }
