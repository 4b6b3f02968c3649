use Rattle.std.proofs.Common.{◌≡◌, ◌+◌, to_z, of_z, w32, arith}
use Rattle.std.proofs.lemmas.Int.{to_z-of_z, ints}
use Rattle.apfloat_rounding.specs.Stored.{quanta_at}
use Rattle.apfloat_rounding.proofs.ShapeExponents.{exponent_word}
use Rattle.apfloat_conversions.proofs.Steps.{IsAfter, step_fits, after_stays, after_carries, after_stored, after_is}
use Rattle.apfloat_conversions.proofs.neighbours.next_greater.Goals as goal

pub step-requires-clause-least : goal.step-requires-clause-least
step-requires-clause-least c = omega (arith, ints, c.requires.normal.operand.least)

pub step-requires-clause-greatest : goal.step-requires-clause-greatest
step-requires-clause-greatest c = omega (arith, ints, c.requires.normal.operand.greatest)

pub power_of_two-requires : goal.power_of_two-requires
power_of_two-requires c = omega (arith, c.args.shape.parameters.precision_high)

pub one_higher-requires : goal.one_higher-requires
one_higher-requires c = omega (arith, ints, c.args.shape.parameters.max_exp_high, c.requires.normal.operand.greatest)

pub overflow_add-significand : goal.overflow_add-significand
overflow_add-significand c =
    let ex = exponent_word c.args.shape c.args.x.significand c.args.x.exponent c.requires.normal in
    record {
      fits =
          step_fits c.args.shape c.args.x.significand c.step.result c.args.x.exponent
          c.requires.normal (rw ex at c.step.ensures);
    }

stays : (state : goal.After-struct_told-then-significand-power_of_two-1)
    → IsAfter state.args.shape (quanta_at state.args.shape.min_exp state.args.x.significand state.args.x.exponent)
    (state.args.x.significand + state.step.result) state.args.x.exponent
stays c =
    let s = c.args.shape in
    let ex = exponent_word s c.args.x.significand c.args.x.exponent c.requires.normal in
    after_stays s c.args.x.significand c.step.result c.args.x.exponent c.requires.normal
    (rw ex at c.step.ensures) (omega (arith, c.if-significand-power_of_two.true, c.power_of_two.ensures))

pub returns-then-significand-power_of_two-clause-stored : goal.returns-then-significand-power_of_two-clause-stored
returns-then-significand-power_of_two-clause-stored c =
    let s = c.args.shape in
    let ex = exponent_word s c.args.x.significand c.args.x.exponent c.requires.normal in
    rw ex (after_stored s (quanta_at s.min_exp c.args.x.significand c.args.x.exponent)
    (c.args.x.significand + c.step.result) c.args.x.exponent c.requires.below (stays c))

pub returns-then-significand-power_of_two-clause-next : goal.returns-then-significand-power_of_two-clause-next
returns-then-significand-power_of_two-clause-next c =
    let s = c.args.shape in
    let ex = exponent_word s c.args.x.significand c.args.x.exponent c.requires.normal in
    rw ex (after_is s (quanta_at s.min_exp c.args.x.significand c.args.x.exponent)
    (c.args.x.significand + c.step.result) c.args.x.exponent (stays c))

carries : (state : goal.After-one_higher)
    → IsAfter state.args.shape (quanta_at state.args.shape.min_exp state.args.x.significand state.args.x.exponent)
    state.integer_bit.result state.one_higher.result
carries c =
    let s = c.args.shape in
    let ex = exponent_word s c.args.x.significand c.args.x.exponent c.requires.normal in
    let e = c.power_of_two.ensures in
    after_carries s c.args.x.significand c.step.result c.integer_bit.result c.args.x.exponent c.one_higher.result
    c.requires.normal c.requires.below (rw ex at c.step.ensures) (omega (arith, c.if-significand-power_of_two.false, e))
    c.integer_bit.ensures (rw ex at c.one_higher.ensures)

pub returns-else-significand-power_of_two-clause-stored : goal.returns-else-significand-power_of_two-clause-stored
returns-else-significand-power_of_two-clause-stored c =
    let s = c.args.shape in
    let er : to_z w32 (of_z w32 c.one_higher.result) ≡ c.one_higher.result =
    to_z-of_z w32 c.one_higher.result (record { sfits = c.one_higher.type_inv }) in
    rw er (after_stored s (quanta_at s.min_exp c.args.x.significand c.args.x.exponent) c.integer_bit.result
    c.one_higher.result c.requires.below (carries c))

pub returns-else-significand-power_of_two-clause-next : goal.returns-else-significand-power_of_two-clause-next
returns-else-significand-power_of_two-clause-next c =
    let s = c.args.shape in
    let er : to_z w32 (of_z w32 c.one_higher.result) ≡ c.one_higher.result =
    to_z-of_z w32 c.one_higher.result (record { sfits = c.one_higher.type_inv }) in
    rw er (after_is s (quanta_at s.min_exp c.args.x.significand c.args.x.exponent) c.integer_bit.result
    c.one_higher.result (carries c))
