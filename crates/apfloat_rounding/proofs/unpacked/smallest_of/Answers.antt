use Rattle.std.proofs.{Common.arith, Math.Nat.pow-le-pow_right}
use Rattle.apfloat_model.proofs.{general.Powers.two_pos, formats.Ranges.one_within}
use Rattle.apfloat_rounding.specs.Shapes.{format_at}
use Rattle.apfloat_rounding.proofs.unpacked.smallest_of.Goals as goal

pub from_quanta-requires-clause-fits : goal.from_quanta-requires-clause-fits
from_quanta-requires-clause-fits c = omega (arith, pow-le-pow_right two_pos c.args.shape.parameters.precision_low)

pub from_quanta-requires-clause-within : goal.from_quanta-requires-clause-within
from_quanta-requires-clause-within c = one_within (format_at c.args.shape) c.args.shape.parameters.precision_low
