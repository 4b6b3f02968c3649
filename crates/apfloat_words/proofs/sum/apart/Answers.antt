use Rattle.std.proofs.Common.{◌-◌, ◌<◌, arith}
use Rattle.apfloat_words.proofs.LossTotals.{level_difference, even_difference, borrowed_difference, reversed_difference}
use Rattle.apfloat_words.proofs.LossTotals.{cut_alone}
use Rattle.apfloat_words.proofs.sum.apart.Goals as goal

pub returns-then-gap-eq0-clause-is : goal.returns-then-gap-eq0-clause-is
returns-then-gap-eq0-clause-is c =
    level_difference c.level.result.flipped c.level.result.significand c.args.high c.args.low c.args.gap
    c.level.result.loss c.if-gap-eq0.true c.level.ensures.exact c.level.ensures.balances

pub returns-then-is_exact-clause-is : goal.returns-then-is_exact-clause-is
returns-then-is_exact-clause-is c =
    let p : 0 < c.args.gap = omega arith in
    let h = cut_alone c.args.low c.shift_right-shifted.result.significand (c.args.gap - 1)
    c.shift_right-shifted.result.loss c.shift_right-shifted.ensures.stands in
    even_difference c.level-then-is_exact.result.flipped c.level-then-is_exact.result.significand
    c.shift_right-shifted.result.significand c.args.high c.args.low c.args.gap c.shift_right-shifted.result.loss
    c.level-then-is_exact.result.loss p (c.is_exact.ensures.yes c.if-is_exact.true)
    c.level-then-is_exact.ensures.exact h c.level-then-is_exact.ensures.balances

pub returns-then-shifted-double-clause-is : goal.returns-then-shifted-double-clause-is
returns-then-shifted-double-clause-is c =
    let p : 0 < c.args.gap = omega arith in
    let h = cut_alone c.args.low c.shift_right-shifted.result.significand (c.args.gap - 1)
    c.shift_right-shifted.result.loss c.shift_right-shifted.ensures.stands in
    borrowed_difference c.shift_right-shifted.result.significand c.args.high c.args.low c.args.gap
    c.shift_right-shifted.result.loss c.inverted.result p (c.is_exact.ensures.no c.if-is_exact.false)
    c.if-shifted-double.true h c.inverted.ensures

pub returns-else-shifted-double-clause-is : goal.returns-else-shifted-double-clause-is
returns-else-shifted-double-clause-is c =
    let p : 0 < c.args.gap = omega arith in
    let h = cut_alone c.args.low c.shift_right-shifted.result.significand (c.args.gap - 1)
    c.shift_right-shifted.result.loss c.shift_right-shifted.ensures.stands in
    reversed_difference c.shift_right-shifted.result.significand c.args.high c.args.low c.args.gap
    c.shift_right-shifted.result.loss p c.if-shifted-double.false h
