use Rattle.std.proofs.{Common.◌-◌, Common.arith, lemmas.Nat.pow_pos}
use Rattle.apfloat_model.proofs.{general.Powers.twice_half, formats.Ranges.half_within}
use Rattle.apfloat_rounding.specs.Shapes.{format_at}
use Rattle.apfloat_rounding.proofs.unpacked.smallest_normalized_of.Goals as goal

pub from_quanta-requires-clause-fits : goal.from_quanta-requires-clause-fits
from_quanta-requires-clause-fits c =
    let t = twice_half c.args.shape.precision (omega (arith, c.args.shape.parameters.precision_low)) in
    rw c.integer_bit.ensures (omega (arith, t, pow_pos (c.args.shape.precision - 1)))

pub from_quanta-requires-clause-within : goal.from_quanta-requires-clause-within
from_quanta-requires-clause-within c =
    rw c.integer_bit.ensures (half_within (format_at c.args.shape) c.args.shape.parameters.precision_low)
