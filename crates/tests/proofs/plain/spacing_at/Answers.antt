use Rattle.std.proofs.Common.{◌*◌, ◌^◌, ◌<◌, arith, rules}
use Rattle.tests.proofs.Spacings.{spacing_some, spacing_below, doubled, last, reached_fits}
use Rattle.tests.proofs.plain.spacing_at.Goals as goal

pub overflow_mul-count : goal.overflow_mul-count
overflow_mul-count c =
    let fits : 2 ^ c.args.precision * (c.args.parts * c.loop-spacing.spacing) < 2 ^ 128 =
    reached_fits c.args.precision c.args.amount c.args.parts c.loop-spacing.spacing c.requires
    c.loop-spacing.invariant in
    search rules

pub loop-spacing-smaller : goal.loop-spacing-smaller
loop-spacing-smaller c =
    let some : 0 < c.loop-spacing.spacing =
    spacing_some c.args.precision c.args.amount c.args.parts c.loop-spacing.spacing c.loop-spacing.invariant in
    let less : c.loop-spacing.spacing < c.args.amount =
    spacing_below c.args.precision c.args.amount c.args.parts c.loop-spacing.spacing (omega arith)
    c.requires.some_parts c.loop-spacing.invariant (search rules) in
    omega arith

pub loop-spacing-preserved : goal.loop-spacing-preserved
loop-spacing-preserved c =
    doubled c.args.precision c.args.amount c.args.parts c.loop-spacing.spacing (omega arith)
    c.loop-spacing.invariant (search rules)

pub returns : goal.returns
returns c =
    last c.args.precision c.args.amount c.args.parts c.loop-spacing.spacing c.loop-spacing.invariant (search rules)
