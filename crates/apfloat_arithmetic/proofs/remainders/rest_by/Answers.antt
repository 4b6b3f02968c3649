use Rattle.std.proofs.Common.{◌≡◌, ℕ, ◌+◌, ◌-◌, ◌/◌, ◌%◌, ◌^◌, ◌<◌, ◌≤◌, count_ones, sym, ap, ◌∙◌, subst, arith}
use Rattle.std.proofs.Math.Nat.{pow-le-pow_right}
use Rattle.apfloat_model.proofs.general.Powers.{two_pos}
use Rattle.apfloat_arithmetic.specs.Magnitudes.{units_of}
use Rattle.apfloat_arithmetic.proofs.WholeQuotients.{IsTurn, is_turn, turn_rest, turn_ones, turn_less, is_less}
use Rattle.apfloat_arithmetic.proofs.WholeQuotients.{few_digits, left_all, none_set, at_place, divisor_pos, last_turn}
use Rattle.apfloat_arithmetic.proofs.WholeQuotients.{last_below}
use Rattle.apfloat_arithmetic.proofs.remainders.rest_by.Goals.{After-less_multiple-less, Then-less-y, Else-rest-y-2}
use Rattle.apfloat_arithmetic.proofs.remainders.rest_by.Goals as goal

pub returns-then-x-y-clause-rest : goal.returns-then-x-y-clause-rest
returns-then-x-y-clause-rest c = left_all _ _ (is_less _ _ _ c.requires.operands (omega arith))

pub returns-then-x-y-clause-steps : goal.returns-then-x-y-clause-steps
returns-then-x-y-clause-steps c = none_set _ _ (is_less _ _ _ c.requires.operands (omega arith))

pub less_multiple-less-requires-clause-narrow : goal.less_multiple-less-requires-clause-narrow
less_multiple-less-requires-clause-narrow c =
    let m : 2 ^ c.args.precision ≤ 2 ^ 125 = pow-le-pow_right two_pos c.requires.operands.precise in
    let f = c.loop-rest.invariant.fits in
    omega arith

-- ---- one iteration

divides : (state : After-less_multiple-less) → 0 < units_of state.args.y
divides c = divisor_pos c.args.precision c.args.y.significand c.args.y.place c.requires.operands.divisor.full

turn : (state : After-less_multiple-less)
    → IsTurn (units_of state.args.y) (units_of state.loop-rest.rest) (units_of state.less_multiple-less.result)
    (state.less_multiple-less.result.place - state.args.y.place)
turn c =
    is_turn c.loop-rest.rest.significand c.loop-rest.rest.place c.args.y.significand c.args.y.place
    c.less_multiple-less.result.significand c.less_multiple-less.result.place
    c.less_multiple-less.ensures.taken c.less_multiple-less.ensures.below c.less_multiple-less.ensures.least

-- one iteration takes one binary one off the quotient
one_digit : (state : After-less_multiple-less) → count_ones (units_of state.loop-rest.rest / units_of state.args.y)
    ≡ 1 + count_ones (units_of state.less_multiple-less.result / units_of state.args.y)
one_digit c =
    turn_ones (units_of c.args.y) (units_of c.loop-rest.rest) (units_of c.less_multiple-less.result)
    (c.less_multiple-less.result.place - c.args.y.place) (divides c) (turn c)

pub overflow_add-steps : goal.overflow_add-steps
overflow_add-steps c =
    let f : count_ones (units_of c.args.x / units_of c.args.y) ≤ c.args.x.place + 1 - c.args.y.place =
    few_digits c.args.precision c.args.x.significand c.args.x.place c.args.y.significand c.args.y.place
    c.requires.operands.some c.requires.operands.dividend.fits c.requires.operands.divisor.full (omega arith) in
    let o = one_digit c in
    let i = c.loop-rest.invariant.counted in
    record { fits = omega arith }

-- ---- the last iteration

last : (state : Then-less-y)
    → IsTurn (units_of state.args.y) (units_of state.loop-rest.rest) (units_of state.less_multiple-less.result) 0
last c =
    last_turn (units_of c.args.y) (units_of c.loop-rest.rest) (units_of c.less_multiple-less.result)
    (c.less_multiple-less.result.place - c.args.y.place) (omega arith)
    (turn (goal.at.returns-then-less-y-clause-rest c).After-less_multiple-less)

leaves_less : (state : Then-less-y) → units_of state.less_multiple-less.result < units_of state.args.y
leaves_less c =
    last_below (units_of c.args.y) (units_of c.loop-rest.rest) (units_of c.less_multiple-less.result) (last c)

pub returns-then-less-y-clause-rest : goal.returns-then-less-y-clause-rest
returns-then-less-y-clause-rest c =
    left_all (units_of c.args.y) (units_of c.less_multiple-less.result) (leaves_less c)
    ∙ sym (turn_rest (units_of c.args.y) (units_of c.loop-rest.rest) (units_of c.less_multiple-less.result) 0 (last c))
    ∙ c.loop-rest.invariant.left

pub returns-then-less-y-clause-steps : goal.returns-then-less-y-clause-steps
returns-then-less-y-clause-steps c =
    let o = one_digit (goal.at.returns-then-less-y-clause-steps c).After-less_multiple-less in
    let i = c.loop-rest.invariant.counted in
    let n = none_set (units_of c.args.y) (units_of c.less_multiple-less.result) (leaves_less c) in
    omega arith

-- ---- any other iteration

pub loop-rest-smaller : goal.loop-rest-smaller
loop-rest-smaller c =
    let state = (goal.at.loop-rest-smaller c).After-less_multiple-less in
    subst (λ (x : ℕ). x < units_of c.loop-rest.rest) (sym c.moved_up_to-rest.ensures.same)
    (turn_less (units_of c.args.y) (units_of c.loop-rest.rest) (units_of c.less_multiple-less.result)
    (c.less_multiple-less.result.place - c.args.y.place) (divides state) (turn state))

pub loop-rest-preserved : goal.loop-rest-preserved
loop-rest-preserved c =
    let state = (goal.at.loop-rest-preserved c).After-less_multiple-less in
    let d : ℕ = units_of c.args.y in
    let r : ℕ = units_of c.loop-rest.rest in
    let s : ℕ = units_of c.less_multiple-less.result in
    let k : ℕ = c.less_multiple-less.result.place - c.args.y.place in
    let o = one_digit state in
    let i = c.loop-rest.invariant.counted in
    let e : count_ones (units_of c.moved_up_to-rest.result / units_of c.args.y)
    ≡ count_ones (units_of c.less_multiple-less.result / units_of c.args.y) =
    ap (λ (x : ℕ). count_ones (x / units_of c.args.y)) c.moved_up_to-rest.ensures.same in
    record {
      above = c.moved_up_to-rest.ensures.least;
      fits = c.moved_up_to-rest.ensures.fits;
      full = c.moved_up_to-rest.ensures.full;
      left = ap (λ (x : ℕ). x % d) c.moved_up_to-rest.ensures.same ∙ sym (turn_rest d r s k (turn state)) ∙
          c.loop-rest.invariant.left;
      counted = omega arith;
    }

-- ---- after the loop

is_left : (state : Else-rest-y-2) → units_of state.loop-rest.rest < units_of state.args.y
is_left c =
    let a = c.loop-rest.invariant.above in
    at_place c.loop-rest.rest.significand c.args.y.significand c.loop-rest.rest.place c.args.y.place
    (omega arith) (omega arith)

pub returns-clause-rest : goal.returns-clause-rest
returns-clause-rest c =
    left_all (units_of c.args.y) (units_of c.loop-rest.rest) (is_left c) ∙ c.loop-rest.invariant.left

pub returns-clause-steps : goal.returns-clause-steps
returns-clause-steps c =
    let i = c.loop-rest.invariant.counted in
    let n = none_set (units_of c.args.y) (units_of c.loop-rest.rest) (is_left c) in
    omega arith
