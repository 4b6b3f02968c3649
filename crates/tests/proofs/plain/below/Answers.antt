use Rattle.std.proofs.Common.{arith}
use Rattle.tests.proofs.Multiples.{floor_is}
use Rattle.tests.proofs.plain.below.Goals as goal

pub returns : goal.returns
returns c = floor_is c.args.precision c.args.amount c.args.parts c.spacing_at-spacing.result (omega arith)
    c.requires.some_parts c.spacing_at-spacing.ensures
