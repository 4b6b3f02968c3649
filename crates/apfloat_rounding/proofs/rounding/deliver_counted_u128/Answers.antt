use Rattle.std.proofs.{Math.Nat.pow-le-pow_right, lemmas.Int.ints, lemmas.Int.to_z-of_z}
use Rattle.std.proofs.Common.{◌≡◌, ℕ, ◌+◌, ◌*◌, ◌^◌, ◌≤◌, ⊎_elim, arith, sym, ◌∙◌, subst, ℤ, pos, ◌+ℤ◌, to_z, of_z, w32}
use Rattle.apfloat_model.proofs.{general.Powers.two_pos, rounding.OddRoundings.to_odd_least}
use Rattle.apfloat_model.specs.declared.loss.Loss.TheVariants.{ExactlyZero}
use Rattle.apfloat_model.specs.rounding.Standing.{StandsFor, up, down}
use Rattle.apfloat_rounding.proofs.{FineCuts.all_kept, rounding.deliver_counted_u128.Goals.After-unit_place-unit}
use Rattle.apfloat_rounding.specs.Shapes.{format_at}
use Rattle.apfloat_rounding.proofs.rounding.deliver_counted_u128.Goals as goal

-- the unit, counted from the quantum
in_quanta : (c : After-unit_place-unit) (amount parts : ℕ) → StandsFor c.args.significand ExactlyZero
    (amount * 2 ^ down (c.args.exponent +ℤ pos (format_at c.args.shape).scale))
    (parts * 2 ^ up (c.args.exponent +ℤ pos (format_at c.args.shape).scale))
    → StandsFor c.args.significand ExactlyZero (amount * 2 ^ down (to_z w32 (of_z w32 c.unit_place-unit.result)))
    (parts * 2 ^ up (to_z w32 (of_z w32 c.unit_place-unit.result)))
in_quanta c amount parts h =
    let v = rw (to_z-of_z w32 c.args.exponent c.ranges.exponent) at c.unit_place-unit.ensures.value in
    let w : to_z w32 (of_z w32 c.unit_place-unit.result) ≡ c.unit_place-unit.result =
    to_z-of_z w32 c.unit_place-unit.result (record { sfits = c.unit_place-unit.type_inv }) in
    subst (λ (x : ℤ). StandsFor c.args.significand ExactlyZero (amount * 2 ^ down x) (parts * 2 ^ up x))
    (sym v ∙ sym w) h

pub returns-then-unit-digits-clause-delivered : goal.returns-then-unit-digits-clause-delivered
returns-then-unit-digits-clause-delivered c = λ amount parts u h.
    let g = in_quanta (goal.at.returns-then-unit-digits-clause-delivered c).After-unit_place-unit amount parts h in
    c.round.ensures.delivered amount parts u (c.cut_counted_u128-cut.ensures.cut amount parts u g)
    (λ r. all_kept c.args.shape.precision c.cut_counted_u128-cut.result amount parts
    c.cut_counted_u128-cut.ensures.full)

pub cut_at_quantum-cut-requires-clause-fine : goal.cut_at_quantum-cut-requires-clause-fine
cut_at_quantum-cut-requires-clause-fine c =
    let s = c.in_word.ensures.same in
    let b = c.if-unit-digits.false in
    let p = c.if-shape-le59.true in
    let l = c.if-digits-shape.true in
    ⊎_elim (λ e. omega (arith, ints, s, b, l, e)) (λ e. omega (arith, ints, s, b, p, e)) c.in_word.ensures.long

pub returns-then-shape-le59-clause-delivered : goal.returns-then-shape-le59-clause-delivered
returns-then-shape-le59-clause-delivered c = λ amount parts u h.
    let precision = c.args.shape.precision in
    let j : c.args.shape.precision + 1 ≤ 61 = omega (arith, c.if-shape-le59.true) in
    let k : 2 ^ (c.args.shape.precision + 1) ≤ 2 ^ 61 = pow-le-pow_right two_pos j in
    let g = in_quanta (goal.at.returns-then-shape-le59-clause-delivered c).After-unit_place-unit amount parts h in
    let o = c.in_word.ensures.odd amount parts u g in
    let x = c.cut_at_quantum-cut.ensures.cut amount parts u (to_odd_least (2 ^ 61) (2 ^ (precision + 1)) _ _ _ k o) in
    c.round_below.ensures.delivered amount parts u x.0 (λ r. x.1)

pub returns-clause-delivered : goal.returns-clause-delivered
returns-clause-delivered c = rw (to_z-of_z w32 c.args.exponent c.ranges.exponent) at c.deliver.ensures.delivered
