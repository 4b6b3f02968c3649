use Rattle.std.proofs.Common.{◌≡◌, ℕ, ◌-◌, ◌^◌, ◌≤◌, ℤ, pos, ◌+ℤ◌, ◌-ℤ◌, ◌≤ℤ◌, to_z, of_z, w32, arith, ap, subst, ◌∙◌}
use Rattle.std.proofs.{Common.sym, lemmas.Int.to_z-of_z, lemmas.Int.ints}
use Rattle.apfloat_model.proofs.general.Powers.{twice_half}
use Rattle.apfloat_rounding.specs.Stored.{quanta_at}
use Rattle.apfloat_rounding.proofs.ShapeExponents.{exponent_word}
use Rattle.apfloat_conversions.proofs.{Nexts.room_below, Steps.IsBefore, Steps.step_below}
use Rattle.apfloat_conversions.proofs.Steps.{before_stays, before_lowers, before_stored, before_is, before_least}
use Rattle.apfloat_conversions.proofs.neighbours.next_less.Goals as goal

pub step-requires-clause-least : goal.step-requires-clause-least
step-requires-clause-least c = omega (arith, ints, c.requires.operand.least)

pub step-requires-clause-greatest : goal.step-requires-clause-greatest
step-requires-clause-greatest c = omega (arith, ints, c.requires.operand.greatest)

pub returns-then-x-least_exponent-clause-stored : goal.returns-then-x-least_exponent-clause-stored
returns-then-x-least_exponent-clause-stored c = c.zero_of.ensures.stored

pub one_lower-exponent-requires : goal.one_lower-exponent-requires
one_lower-exponent-requires c =
    omega (
      arith,
      ints,
      c.args.shape.parameters.min_exp_low,
      c.args.shape.parameters.precision_high,
      c.requires.operand.least,
    )

pub power_of_two-requires : goal.power_of_two-requires
power_of_two-requires c = omega (arith, c.args.shape.parameters.precision_high)

pub step-requires-2-clause-greatest : goal.step-requires-2-clause-greatest
step-requires-2-clause-greatest c = omega (arith, ints, c.requires.operand.greatest, c.one_lower-exponent.ensures)

pub overflow_sub-result : goal.overflow_sub-result
overflow_sub-result c =
    let s = c.args.shape in
    step_below s c.args.x.significand c.step.result c.args.x.exponent c.requires.operand.least c.requires.operand.full
    (rw (exponent_word s c.args.x.significand c.args.x.exponent c.requires) at c.step.ensures)

stays : (state : goal.After-struct_told-then-x-integer_bit-1)
    → IsBefore state.args.shape (quanta_at state.args.shape.min_exp state.args.x.significand state.args.x.exponent)
    (state.args.x.significand - state.step.result) state.args.x.exponent
stays c =
    let s = c.args.shape in
    let t = c.if-x-integer_bit.true in
    let e = c.integer_bit.ensures in
    before_stays s c.args.x.significand c.step.result c.args.x.exponent c.requires
    (rw (exponent_word s c.args.x.significand c.args.x.exponent c.requires) at c.step.ensures) (omega (arith, t, e))

pub returns-then-x-integer_bit-clause-stored : goal.returns-then-x-integer_bit-clause-stored
returns-then-x-integer_bit-clause-stored c =
    let s = c.args.shape in
    let ex = exponent_word s c.args.x.significand c.args.x.exponent c.requires in
    rw ex (before_stored s (quanta_at s.min_exp c.args.x.significand c.args.x.exponent)
    (c.args.x.significand - c.step.result) c.args.x.exponent c.requires.within (stays c))

pub returns-then-x-integer_bit-clause-next : goal.returns-then-x-integer_bit-clause-next
returns-then-x-integer_bit-clause-next c =
    let s = c.args.shape in
    let ex = exponent_word s c.args.x.significand c.args.x.exponent c.requires in
    rw ex (before_is s (quanta_at s.min_exp c.args.x.significand c.args.x.exponent)
    (c.args.x.significand - c.step.result) c.args.x.exponent c.requires.within (stays c))

-- a significand that is at most the integer bit equals it
is_half : (m bit half : ℕ) → m ≤ bit → bit ≡ half → half ≤ m → m ≡ half
is_half m bit half f e g = omega arith

pub returns-then-x-least_exponent-clause-next : goal.returns-then-x-least_exponent-clause-next
returns-then-x-least_exponent-clause-next c =
    let s = c.args.shape in
    let ex = exponent_word s c.args.x.significand c.args.x.exponent c.requires in
    let el : to_z w32 (of_z w32 c.least_exponent.result) ≡ c.least_exponent.result =
    to_z-of_z w32 c.least_exponent.result (record { sfits = c.least_exponent.type_inv }) in
    let i : c.args.x.exponent ≡ ((s.min_exp +ℤ pos 1) -ℤ pos s.precision) = sym ex ∙
    ap (to_z w32) c.if-x-least_exponent.true ∙ el ∙ c.least_exponent.ensures in
    rw c.zero_of.ensures.datum (before_least s c.args.x.significand c.args.x.exponent
    c.requires (is_half c.args.x.significand c.integer_bit.result (2 ^ (s.precision - 1))
    c.if-x-integer_bit.false c.integer_bit.ensures c.requires.operand.full) i)

low : (state : goal.After-step-2)
    → ((state.args.shape.min_exp +ℤ pos 1) -ℤ pos state.args.shape.precision) ≤ℤ state.one_lower-exponent.result
low c =
    let s = c.args.shape in
    let r = rw (exponent_word s c.args.x.significand c.args.x.exponent c.requires) at c.one_lower-exponent.ensures in
    let f = c.if-x-least_exponent.false in
    subst (λ (z : ℤ). ((s.min_exp +ℤ pos 1) -ℤ pos s.precision) ≤ℤ z) (sym r)
    (room_below ((s.min_exp +ℤ pos 1) -ℤ pos s.precision) c.args.x.exponent c.requires.operand.least
    (λ e. f (ap (of_z w32) (e ∙ sym c.least_exponent.ensures))))

pub overflow_sub-result-2 : goal.overflow_sub-result-2
overflow_sub-result-2 c =
    let s = c.args.shape in
    let ey : to_z w32 (of_z w32 c.one_lower-exponent.result) ≡ c.one_lower-exponent.result =
    to_z-of_z w32 c.one_lower-exponent.result (record { sfits = c.one_lower-exponent.type_inv }) in
    let t = twice_half s.precision (omega (arith, c.args.shape.parameters.precision_low)) in
    step_below s c.power_of_two.result c.step-2.result c.one_lower-exponent.result (low c)
    (omega (arith, c.power_of_two.ensures, t)) (rw ey at c.step-2.ensures)

lowers : (state : goal.After-step-2)
    → IsBefore state.args.shape (quanta_at state.args.shape.min_exp state.args.x.significand state.args.x.exponent)
    (state.power_of_two.result - state.step-2.result) state.one_lower-exponent.result
lowers c =
    let s = c.args.shape in
    let ex = exponent_word s c.args.x.significand c.args.x.exponent c.requires in
    let ey : to_z w32 (of_z w32 c.one_lower-exponent.result) ≡ c.one_lower-exponent.result =
    to_z-of_z w32 c.one_lower-exponent.result (record { sfits = c.one_lower-exponent.type_inv }) in
    before_lowers s c.args.x.significand c.power_of_two.result c.step-2.result c.args.x.exponent
    c.one_lower-exponent.result c.requires
    (is_half c.args.x.significand c.integer_bit.result (2 ^ (s.precision - 1)) c.if-x-integer_bit.false
    c.integer_bit.ensures c.requires.operand.full) c.power_of_two.ensures
    (rw ex at c.one_lower-exponent.ensures) (low c) (rw ey at c.step-2.ensures)

pub returns-clause-stored : goal.returns-clause-stored
returns-clause-stored c =
    let s = c.args.shape in
    let ey : to_z w32 (of_z w32 c.one_lower-exponent.result) ≡ c.one_lower-exponent.result =
    to_z-of_z w32 c.one_lower-exponent.result (record { sfits = c.one_lower-exponent.type_inv }) in
    rw ey (before_stored s (quanta_at s.min_exp c.args.x.significand c.args.x.exponent)
    (c.power_of_two.result - c.step-2.result) c.one_lower-exponent.result c.requires.within (lowers c))

pub returns-clause-next : goal.returns-clause-next
returns-clause-next c =
    let s = c.args.shape in
    let ey : to_z w32 (of_z w32 c.one_lower-exponent.result) ≡ c.one_lower-exponent.result =
    to_z-of_z w32 c.one_lower-exponent.result (record { sfits = c.one_lower-exponent.type_inv }) in
    rw ey (before_is s (quanta_at s.min_exp c.args.x.significand c.args.x.exponent)
    (c.power_of_two.result - c.step-2.result) c.one_lower-exponent.result c.requires.within (lowers c))
