use Rattle.std.proofs.Common.{arith}
use Rattle.tests.proofs.Multiples.{above_fits}
use Rattle.tests.proofs.plain.pick.Goals as goal

pub overflow_mul-above_by : goal.overflow_mul-above_by
overflow_mul-above_by c = record {
  fits =
      above_fits c.args.precision c.above-above.result c.args.amount c.args.parts (omega arith)
      c.requires.some_parts c.above-above.ensures c.requires.amount_bound c.requires.parts_bound;
}
