use Rattle.std.proofs.Common.{arith}
use Rattle.apfloat_model.proofs.{formats.Ranges.low_within, general.Powers.twice_half}
use Rattle.apfloat_rounding.specs.Shapes.{format_at}
use Rattle.apfloat_rounding.proofs.bits.implied_number.Goals as goal

pub from_quanta-requires-clause-fits : goal.from_quanta-requires-clause-fits
from_quanta-requires-clause-fits c =
    let t = twice_half c.args.shape.precision (omega (arith, c.args.shape.parameters.precision_low)) in
    omega (arith, t, c.requires.trailing)

pub from_quanta-requires-clause-within : goal.from_quanta-requires-clause-within
from_quanta-requires-clause-within c =
    low_within (format_at c.args.shape) c.args.fields.trailing c.args.shape.parameters.precision_low c.requires.trailing

pub returns-then-fields-eq0-clause-stored : goal.returns-then-fields-eq0-clause-stored
returns-then-fields-eq0-clause-stored c = c.from_quanta.ensures.stored

pub returns-else-fields-eq0-clause-stored : goal.returns-else-fields-eq0-clause-stored
returns-else-fields-eq0-clause-stored c = c.normal_number.ensures.stored
