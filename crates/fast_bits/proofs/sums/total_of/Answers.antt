use Rattle.std.proofs.{Common.false, Common.sym, Common.arith, lemmas.Bool.le-ltb}
use Rattle.apfloat_words.proofs.OddTotals.{apart_to_odd}
use Rattle.fast_bits.proofs.OrderedNumbers.{cut_below}
use Rattle.fast_bits.proofs.sums.total_of.Goals as goal

pub overflow_sub-result : goal.overflow_sub-result
overflow_sub-result c =
    cut_below c.args.high c.args.low c.cut_to_odd-cut.result c.args.gap c.requires.high_full c.requires.low_fits
    c.requires.order c.cut_to_odd-cut.ensures

pub returns-then-unlike-clause-apart : goal.returns-then-unlike-clause-apart
returns-then-unlike-clause-apart c = λ u.
    let cut = c.cut_to_odd-cut.ensures in
    let below = cut_below c.args.high c.args.low c.cut_to_odd-cut.result c.args.gap c.requires.high_full
    c.requires.low_fits c.requires.order cut in
    apart_to_odd 62 c.args.high c.args.low c.cut_to_odd-cut.result c.args.gap false (omega arith) c.requires.high_full
    c.requires.high_free c.requires.low_fits c.requires.low_free cut
    (sym (le-ltb c.args.high c.cut_to_odd-cut.result below))
