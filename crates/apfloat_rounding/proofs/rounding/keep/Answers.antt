use Rattle.std.proofs.Common.{◌≡◌, ℕ, ◌+◌, ◌-◌, ◌*◌, ◌/◌, ◌%◌, ◌^◌, ◌<◌, sym, ap, ◌∙◌, subst, arith, pos, ◌≤ℤ◌, w32}
use Rattle.std.proofs.Math.{Path.subst₂, Nat.mul-pos}
use Rattle.std.proofs.lemmas.{Nat.pow_pos, Nat.shr-shr, Int.ints, Int.to_z-of_z}
use Rattle.apfloat_model.specs.declared.loss.Loss.{Loss}
use Rattle.apfloat_model.specs.rounding.Standing.{StandsFor, up, down}
use Rattle.apfloat_model.proofs.rounding.KeptDigits.{cut_fits, cut_full, shift_fits, shift_full, cut_kept, shift_kept}
use Rattle.apfloat_model.proofs.rounding.KeptDigits.{zero_kept, exact_zero, exact_shift}
use Rattle.apfloat_model.proofs.general.Powers.{twice_half}
use Rattle.apfloat_rounding.specs.Cuts.{loss_at}
use Rattle.apfloat_rounding.proofs.FineCuts.{as_exact, at_quantum, div_one}
use Rattle.apfloat_rounding.proofs.HalfQuanta.{eighths, eighths_finely, loss_in_eighths}
use Rattle.apfloat_rounding.proofs.rounding.keep.Goals.{After-quarters, After-shift_right-halves}
use Rattle.apfloat_rounding.proofs.rounding.keep.Goals as goal

pub returns-then-significand-eq0-clause-cut : goal.returns-then-significand-eq0-clause-cut
returns-then-significand-eq0-clause-cut c = λ amount parts u h.
    let z = exact_zero c.args.significand c.args.precision c.args.loss (c.args.unit ≤ℤ pos 0)
    c.if-significand-eq0.true c.requires.fine (omega (arith, ints)) in
    as_exact c.args.precision 0 0 c.args.loss amount parts z
    (zero_kept c.args.precision c.args.significand (up c.args.unit) (down c.args.unit) c.args.loss amount parts
    c.requires.some u c.if-significand-eq0.true z h)

pub returns-then-unit-place-clause-cut : goal.returns-then-unit-place-clause-cut
returns-then-unit-place-clause-cut c = λ amount parts u h.
    let e = to_z-of_z w32 c.args.unit c.ranges.unit in
    let n : c.args.unit ≤ℤ pos 0 → ⊥ = omega (arith, ints) in
    let covers = rw e at c.kept_place-place.ensures.covers in
    let reached = rw e at c.kept_place-place.ensures.reached in
    let steps = rw e at c.steps_down.ensures in
    let z = exact_shift c.args.significand c.digits.result c.steps_down.result c.kept_place-place.result
    (up c.args.unit) (down c.args.unit) c.args.precision c.args.loss (c.args.unit ≤ℤ pos 0)
    c.digits.ensures.below (omega (arith, ints)) covers steps c.requires.fine n in
    as_exact c.args.precision _ c.kept_place-place.result c.args.loss amount parts z
    (shift_kept c.args.precision c.args.significand c.digits.result c.steps_down.result
    c.kept_place-place.result (up c.args.unit) (down c.args.unit) c.args.loss amount parts c.requires.some
    c.requires.precise u c.digits.ensures.below c.digits.ensures.full c.if-significand-eq0.false covers
    reached steps z h)

-- the unit is the place
same_place : (c : After-quarters) → 0 + up c.args.unit ≡ c.kept_place-place.result + down c.args.unit
same_place c =
    let steps = rw (to_z-of_z w32 c.args.unit c.ranges.unit) at c.steps_up-steps.ensures in
    omega (arith, steps, c.if-steps-eq0.true)

pub returns-then-steps-eq0-clause-fits : goal.returns-then-steps-eq0-clause-fits
returns-then-steps-eq0-clause-fits c =
    let e = to_z-of_z w32 c.args.unit c.ranges.unit in
    cut_fits c.args.precision c.args.significand c.args.significand c.digits.result 0 c.kept_place-place.result
    (up c.args.unit) (down c.args.unit) c.digits.ensures.below (rw e at c.kept_place-place.ensures.covers)
    (same_place (goal.at.returns-then-steps-eq0-clause-fits c).After-quarters) (sym (div_one c.args.significand))

pub returns-then-steps-eq0-clause-cut : goal.returns-then-steps-eq0-clause-cut
returns-then-steps-eq0-clause-cut c = λ amount parts u h.
    let e = to_z-of_z w32 c.args.unit c.ranges.unit in
    let l : loss_at (2 * c.quarters.result) 4 ≡ c.args.loss =
    loss_in_eighths c.quarters.result ∙ c.quarters.ensures.same in
    let unit = parts * 2 ^ up c.args.unit in
    let one : parts * 2 ^ up c.args.unit ≡ 2 ^ 0 * (parts * 2 ^ up c.args.unit) = omega arith in
    cut_kept c.args.precision c.args.significand c.args.significand c.digits.result 0 c.kept_place-place.result
    (up c.args.unit) (down c.args.unit) (loss_at (2 * c.quarters.result) 4) amount parts c.requires.some u
    c.digits.ensures.below c.digits.ensures.full (rw e at c.kept_place-place.ensures.covers)
    (rw e at c.kept_place-place.ensures.reached)
    (same_place (goal.at.returns-then-steps-eq0-clause-cut c).After-quarters) (sym (div_one c.args.significand))
    (subst₂ (λ (x : Loss) (y : ℕ). StandsFor c.args.significand x (amount * 2 ^ down c.args.unit) y) (sym l) one h)

-- the steps to the place, and the digits that are left there
steps : (c : After-shift_right-halves)
    → (c.steps_up-steps.result + up c.args.unit ≡ c.kept_place-place.result + down c.args.unit)
    × (c.shift_right-halves.result.significand / 2 ≡ c.args.significand / 2 ^ c.steps_up-steps.result)
steps c =
    let k : c.steps_up-steps.result - 1 + 1 ≡ c.steps_up-steps.result = omega (arith, c.if-steps-eq0.false) in (
      rw (to_z-of_z w32 c.args.unit c.ranges.unit) at c.steps_up-steps.ensures,
      ap (λ (x : ℕ). x / 2) c.shift_right-halves.ensures.quotient
          ∙ shr-shr c.args.significand (c.steps_up-steps.result - 1) 1
          ∙ ap (λ (x : ℕ). c.args.significand / 2 ^ x) k,
    )

pub returns-clause-cut : goal.returns-clause-cut
returns-clause-cut c = λ amount parts u h.
    let e = to_z-of_z w32 c.args.unit c.ranges.unit in
    let s = steps (goal.at.returns-clause-cut c).After-shift_right-halves in
    let n = c.steps_up-steps.result in
    let z = c.if-steps-eq0.false in
    let halves = c.shift_right-halves.result.significand in
    let v : 0 < parts * 2 ^ up c.args.unit = mul-pos u (pow_pos (up c.args.unit)) in
    let g = c.shift_right-halves.ensures.stands (amount * 2 ^ down c.args.unit) (parts * 2 ^ up c.args.unit) v h in
    let w = eighths halves c.quarters-2.result c.shift_right-halves.result.loss (amount * 2 ^ down c.args.unit)
    (2 ^ (n - 1) * (parts * 2 ^ up c.args.unit)) (mul-pos (pow_pos (n - 1)) v) c.quarters-2.ensures.few
    c.quarters-2.ensures.same g in
    let t : 2 * 2 ^ (c.steps_up-steps.result - 1) ≡ 2 ^ c.steps_up-steps.result = twice_half n (omega (arith, z)) in
    let t' : 2 * (2 ^ (c.steps_up-steps.result - 1) * (parts * 2 ^ up c.args.unit)) ≡ 2 ^ c.steps_up-steps.result
    * (parts * 2 ^ up c.args.unit) = omega arith ∙ ap (λ (x : ℕ). x * (parts * 2 ^ up c.args.unit)) t in
    rw c.last_digit.ensures
    (cut_kept c.args.precision c.args.significand (halves / 2) c.digits.result n c.kept_place-place.result
    (up c.args.unit) (down c.args.unit) (loss_at (4 * (halves % 2) + c.quarters-2.result) 4) amount parts
    c.requires.some u c.digits.ensures.below c.digits.ensures.full (rw e at c.kept_place-place.ensures.covers)
    (rw e at c.kept_place-place.ensures.reached) s.0 s.1
    (subst (λ (x : ℕ). StandsFor (halves / 2) (loss_at (4 * (halves % 2) + c.quarters-2.result) 4)
    (amount * 2 ^ down c.args.unit) x) t' w))

pub returns-clause-finely : goal.returns-clause-finely
returns-clause-finely c = λ f amount parts u h.
    let s = steps (goal.at.returns-clause-finely c).After-shift_right-halves in
    let n = c.steps_up-steps.result in
    let z = c.if-steps-eq0.false in
    let halves = c.shift_right-halves.result.significand in
    let v : 0 < parts * 2 ^ up c.args.unit = mul-pos u (pow_pos (up c.args.unit)) in
    let g = c.shift_right-halves.ensures.stands (amount * 2 ^ down c.args.unit) (parts * 2 ^ up c.args.unit) v h in
    let full = cut_full c.args.precision c.args.significand (halves / 2) c.digits.result n c.kept_place-place.result
    (up c.args.unit) (down c.args.unit) c.requires.some c.digits.ensures.full
    (rw (to_z-of_z w32 c.args.unit c.ranges.unit) at c.kept_place-place.ensures.reached) s.0 s.1 in
    rw c.last_digit.ensures
    (λ o m.
    let w = at_quantum c.args.precision (halves / 2) c.kept_place-place.result full o in
    eighths_finely halves c.quarters-2.result c.shift_right-halves.result.loss amount parts (n - 1) (up c.args.unit)
    (down c.args.unit) c.quarters-2.ensures.few c.quarters-2.ensures.same m (omega (arith, s.0, w, z)) g)

pub returns-then-unit-place-clause-fits : goal.returns-then-unit-place-clause-fits
returns-then-unit-place-clause-fits c =
    let e = to_z-of_z w32 c.args.unit c.ranges.unit in
    shift_fits c.args.precision c.args.significand c.digits.result c.steps_down.result
    c.kept_place-place.result (up c.args.unit) (down c.args.unit) c.requires.precise c.digits.ensures.below
    (rw e at c.kept_place-place.ensures.covers) (rw e at c.steps_down.ensures)

pub returns-then-unit-place-clause-full : goal.returns-then-unit-place-clause-full
returns-then-unit-place-clause-full c =
    let e = to_z-of_z w32 c.args.unit c.ranges.unit in
    shift_full c.args.precision c.args.significand c.digits.result c.steps_down.result
    c.kept_place-place.result (up c.args.unit) (down c.args.unit) c.requires.precise c.digits.ensures.below
    c.digits.ensures.full c.if-significand-eq0.false (rw e at c.kept_place-place.ensures.covers)
    (rw e at c.kept_place-place.ensures.reached) (rw e at c.steps_down.ensures)

pub returns-clause-fits : goal.returns-clause-fits
returns-clause-fits c =
    let s = steps (goal.at.returns-clause-fits c).After-shift_right-halves in
    cut_fits c.args.precision c.args.significand (c.shift_right-halves.result.significand / 2) c.digits.result
    c.steps_up-steps.result c.kept_place-place.result (up c.args.unit) (down c.args.unit) c.digits.ensures.below
    (rw (to_z-of_z w32 c.args.unit c.ranges.unit) at c.kept_place-place.ensures.covers) s.0 s.1

pub returns-clause-full : goal.returns-clause-full
returns-clause-full c =
    let s = steps (goal.at.returns-clause-full c).After-shift_right-halves in
    cut_full c.args.precision c.args.significand (c.shift_right-halves.result.significand / 2) c.digits.result
    c.steps_up-steps.result c.kept_place-place.result (up c.args.unit) (down c.args.unit) c.requires.some
    c.digits.ensures.full (rw (to_z-of_z w32 c.args.unit c.ranges.unit) at c.kept_place-place.ensures.reached) s.0 s.1
