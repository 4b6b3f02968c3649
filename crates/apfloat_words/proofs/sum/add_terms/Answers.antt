use Rattle.std.proofs.Common.{◌≡◌, ◌≤ℤ◌, ◌^◌, ◌<◌, ◌≤◌, ℤ, Bool, ⊎_elim, to_z, of_z, w32, ◌∙◌, sym, refl, subst, arith}
use Rattle.std.proofs.lemmas.Int.{ints}
use Rattle.apfloat_words.specs.{declared.terms.Term.Term, Totals.counted, Totals.StandsForSigned}
use Rattle.apfloat_words.proofs.Orders.{of_high, of_low, greater_first, like_in_order, like_out_of_order}
use Rattle.apfloat_words.proofs.Orders.{sign_unless_zero, sign_of_zero}
use Rattle.apfloat_words.proofs.{LossTotals.total_swapped, sum.add_terms.Goals.After-sum_of-total}
use Rattle.apfloat_model.specs.rounding.Bounds.{IsWithin, exponent_bound}
use Rattle.apfloat_model.proofs.arithmetic.Signs.{swapped_sum}
use Rattle.apfloat_words.proofs.sum.add_terms.Goals as goal

pub sum_of-total-requires-clause-above : goal.sum_of-total-requires-clause-above
sum_of-total-requires-clause-above c = c.in_order_of_exponents.ensures.order

pub sum_of-total-requires-clause-high : goal.sum_of-total-requires-clause-high
sum_of-total-requires-clause-high c =
    of_high (λ (t : Term). IsWithin exponent_bound t.exponent) _ _ _ _ c.in_order_of_exponents.ensures.same c.requires.x
    c.requires.y

pub sum_of-total-requires-clause-low : goal.sum_of-total-requires-clause-low
sum_of-total-requires-clause-low c =
    of_low (λ (t : Term). IsWithin exponent_bound t.exponent) _ _ _ _ c.in_order_of_exponents.ensures.same c.requires.x
    c.requires.y

pub sum_of-total-requires-clause-high_room : goal.sum_of-total-requires-clause-high_room
sum_of-total-requires-clause-high_room c =
    of_high (λ (t : Term). t.significand < 2 ^ 127) _ _ _ _ c.in_order_of_exponents.ensures.same c.requires.x_room
    c.requires.y_room

pub sum_of-total-requires-clause-low_room : goal.sum_of-total-requires-clause-low_room
sum_of-total-requires-clause-low_room c =
    of_low (λ (t : Term). t.significand < 2 ^ 127) _ _ _ _ c.in_order_of_exponents.ensures.same c.requires.x_room
    c.requires.y_room

-- the exponent of the total
exponent_is : (c : After-sum_of-total)
    → to_z w32 (of_z w32 c.sum_of-total.result.exponent) ≡ c.sum_of-total.result.exponent
exponent_is c =
    let same = c.in_order_of_exponents.ensures.same in
    let h = of_high (λ (t : Term). IsWithin exponent_bound t.exponent) _ _ _ _ same c.requires.x c.requires.y in
    let l = of_low (λ (t : Term). IsWithin exponent_bound t.exponent) _ _ _ _ same c.requires.x c.requires.y in
    omega (arith, ints, h.low, h.high, l.low, l.high, c.sum_of-total.ensures.near, c.sum_of-total.ensures.far)

pub returns-clause-zero : goal.returns-clause-zero
returns-clause-zero c = λ s l.
    sign_of_zero c.is_zero.result c.sum_of-total.result.negative c.args.x.negative c.either.result c.either.ensures
    (λ f. c.is_zero.ensures.no f s l)

pub returns-clause-coarser : goal.returns-clause-coarser
returns-clause-coarser c = λ e.
    let same = c.in_order_of_exponents.ensures.same in
    let l = c.sum_of-total.ensures.coarser (like_in_order Bool (λ (t : Term). t.negative) _ _ _ _ same e) in
    rw (exponent_is (goal.at.returns-clause-coarser c).After-sum_of-total)
    (greater_first _ _ _ _ _ same c.in_order_of_exponents.ensures.order l)

pub returns-clause-level : goal.returns-clause-level
returns-clause-level c = λ e.
    let same = c.in_order_of_exponents.ensures.same in
    let l = c.sum_of-total.ensures.level (like_in_order ℤ (λ (t : Term). t.exponent) _ _ _ _ same e) in
    rw (exponent_is (goal.at.returns-clause-level c).After-sum_of-total)
    (l ∙ of_high (λ (t : Term). t.exponent ≡ c.args.x.exponent) _ _ _ _ same refl (sym e))

pub returns-clause-halved : goal.returns-clause-halved
returns-clause-halved c = λ n d.
    let same = c.in_order_of_exponents.ensures.same in
    let l = c.sum_of-total.ensures.halved (λ p. n (like_out_of_order Bool (λ (t : Term). t.negative) _ _ _ _ same p))
    (λ p. d (like_out_of_order ℤ (λ (t : Term). t.exponent) _ _ _ _ same p)) in
    rw (exponent_is (goal.at.returns-clause-halved c).After-sum_of-total)
    (greater_first _ _ _ _ _ same c.in_order_of_exponents.ensures.order l)

pub returns-clause-stands : goal.returns-clause-stands
returns-clause-stands c = λ base lx ly.
    let same = c.in_order_of_exponents.ensures.same in
    let x = counted base c.args.x.negative c.args.x.exponent c.args.x.significand in
    let y = counted base c.args.y.negative c.args.y.exponent c.args.y.significand in
    let total = c.sum_of-total.result in
    let b = of_low (λ (t : Term). base ≤ℤ t.exponent) _ _ _ _ same lx ly in
    let r = c.sum_of-total.ensures.stands base b in
    let z = sign_unless_zero c.is_zero.result total.negative c.args.x.negative c.either.result total.significand
    total.loss c.either.ensures c.is_zero.ensures.yes in
    rw (exponent_is (goal.at.returns-clause-stands c).After-sum_of-total)
    (⊎_elim
    (λ d.
    let s = rw (d.0, d.1) at r in
    subst (λ (w : ℤ). StandsForSigned base w c.either.result total.exponent total.significand total.loss)
    (swapped_sum y x)
    (total_swapped base x y total.negative c.either.result total.exponent total.significand total.loss z s))
    (λ d.
    let s = rw (d.0, d.1) at r in
    total_swapped base y x total.negative c.either.result total.exponent total.significand total.loss z s)
    same)
