use Rattle.std.proofs.{Common.arith, lemmas.Int.ints}
use Rattle.apfloat_rounding.proofs.unpacked.term_of.Goals as goal

pub last_exponent-requires : goal.last_exponent-requires
last_exponent-requires c =
    record {
      low = omega (arith, ints, c.args.shape.parameters, c.requires.operand);
      high = omega (arith, ints, c.args.shape.parameters, c.requires.operand);
    }

pub returns-clause-exponent : goal.returns-clause-exponent
returns-clause-exponent c =
    omega (
      arith,
      ints,
      c.args.shape.parameters,
      c.requires.operand.least,
      c.requires.operand.greatest,
      c.last_exponent.ensures.value,
    )

pub returns-clause-within : goal.returns-clause-within
returns-clause-within c =
    record {
      low = omega (arith, ints, c.args.shape.parameters, c.requires.operand, c.last_exponent.ensures.value);
      high = omega (arith, ints, c.args.shape.parameters, c.requires.operand, c.last_exponent.ensures.value);
    }
