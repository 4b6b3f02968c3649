use Rattle.std.proofs.Common.{arith}
use Rattle.apfloat_decimals.proofs.spelled.WrittenNumbers.{few_digits, shorter}
use Rattle.apfloat_decimals.proofs.formatting.count_of.Goals as goal

pub overflow_add-count : goal.overflow_add-count
overflow_add-count c =
    let few = few_digits c.args.number c.ranges.number.fits in
    let counted = c.loop-left.invariant in
    record { fits = omega (arith, few, counted) }

pub loop-left-preserved : goal.loop-left-preserved
loop-left-preserved c =
    let less = shorter c.loop-left.left (omega (arith, c.loop-left-test.true)) c.loop-left.auto.left-fits.fits in
    let counted = c.loop-left.invariant in
    omega (arith, less, counted)

pub overflow_add-result : goal.overflow_add-result
overflow_add-result c =
    let few = few_digits c.args.number c.ranges.number.fits in
    let counted = c.loop-left.invariant in
    record { fits = omega (arith, few, counted, c.count_of_word.ensures.count) }

pub returns-clause-few : goal.returns-clause-few
returns-clause-few c =
    let few = few_digits c.args.number c.ranges.number.fits in
    let counted = c.loop-left.invariant in
    omega (arith, few, counted, c.count_of_word.ensures.count)
