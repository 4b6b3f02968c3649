use Rattle.std.proofs.Common.{◌-◌, ◌-ℤ◌, refl, arith}
use Rattle.std.proofs.lemmas.Int.{ints}
use Rattle.apfloat_rounding.specs.Stored.{quanta_of}
use Rattle.apfloat_arithmetic.proofs.NearestMultiples.{operand_scaled}
use Rattle.apfloat_arithmetic.proofs.remainders.magnitude_of.Goals as goal

pub overflow_sub-result : goal.overflow_sub-result
overflow_sub-result c =
    omega (arith, ints, c.args.shape.parameters, c.requires.operand.least, c.requires.operand.greatest)

pub overflow_sub-result-2 : goal.overflow_sub-result-2
overflow_sub-result-2 c = omega (arith, c.args.shape.parameters.precision_low)

pub overflow_cast-result : goal.overflow_cast-result
overflow_cast-result c = omega (arith, ints, c.args.shape.parameters.precision_high)

pub overflow_add-result : goal.overflow_add-result
overflow_add-result c =
    omega (arith, ints, c.args.shape.parameters, c.requires.operand.least, c.requires.operand.greatest)

pub overflow_cast-result-2 : goal.overflow_cast-result-2
overflow_cast-result-2 c =
    omega (arith, ints, c.args.shape.parameters, c.requires.operand.least, c.requires.operand.greatest)

pub returns-clause-place : goal.returns-clause-place
returns-clause-place c =
    omega (arith, ints, c.args.shape.parameters, c.requires.operand.least, c.requires.operand.greatest)

pub returns-clause-near : goal.returns-clause-near
returns-clause-near c =
    omega (arith, ints, c.args.shape.parameters, c.requires.operand.least, c.requires.operand.greatest)

pub returns-clause-units : goal.returns-clause-units
returns-clause-units c =
    operand_scaled _ (c.args.shape.precision - 1) (quanta_of c.args.shape c.args.x) c.args.x.significand _
    (c.args.x.exponent -ℤ c.args.shape.min_exp) refl
    (omega (arith, ints, c.args.shape.parameters, c.requires.operand.least, c.requires.operand.greatest))
    c.requires.whole
