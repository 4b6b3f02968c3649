use Rattle.std.proofs.Common.{rules, arith}
use Rattle.apfloat_model.proofs.general.Powers.{four, twice_half}
use Rattle.apfloat_rounding.proofs.shape.Shape.greatest_significand.Goals as goal

pub overflow_sub-result : goal.overflow_sub-result
overflow_sub-result c =
    let k = four c.args.self.precision c.args.self.parameters.precision_low in
    omega (arith, k, twice_half c.args.self.precision (omega arith))

pub returns-in-NanOnly-clause-full : goal.returns-in-NanOnly-clause-full
returns-in-NanOnly-clause-full c =
    let k = four c.args.self.precision c.args.self.parameters.precision_low in
    omega (arith, k, twice_half c.args.self.precision (omega arith))

pub returns-in-NanOnly-clause-value : goal.returns-in-NanOnly-clause-value
returns-in-NanOnly-clause-value c = search rules steps 500000
