use Rattle.std.proofs.{Common.arith, lemmas.Int.ints}
use Rattle.apfloat_conversions.proofs.neighbours.step.Goals as goal

pub steps_between-requires-clause-above : goal.steps_between-requires-clause-above
steps_between-requires-clause-above c = omega (arith, ints)

pub steps_between-requires-clause-high : goal.steps_between-requires-clause-high
steps_between-requires-clause-high c =
    record {
      low = omega (arith, ints, c.args.shape.parameters.min_exp_low);
      high = omega (arith, ints, c.args.shape.parameters.min_exp_high);
    }

pub steps_between-requires-clause-low : goal.steps_between-requires-clause-low
steps_between-requires-clause-low c =
    record {
      low = omega (arith, ints, c.args.shape.parameters, c.requires.least);
      high = omega (arith, ints, c.args.shape.parameters, c.requires.greatest);
    }

pub power_of_two-requires : goal.power_of_two-requires
power_of_two-requires c = omega (arith, ints, c.args.shape.parameters.precision_high, c.requires.least)
