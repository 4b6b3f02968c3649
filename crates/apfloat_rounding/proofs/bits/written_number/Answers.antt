use Rattle.std.proofs.Common.{arith}
use Rattle.apfloat_model.proofs.{bits.EncodedOnce.explicit_kind, formats.Ranges.ieee_within}
use Rattle.apfloat_rounding.specs.{Shapes.format_at, Encoded.layout_at}
use Rattle.apfloat_rounding.proofs.bits.written_number.Goals as goal

pub from_quanta-requires-clause-near : goal.from_quanta-requires-clause-near
from_quanta-requires-clause-near c = omega arith

pub from_quanta-requires-clause-fits : goal.from_quanta-requires-clause-fits
from_quanta-requires-clause-fits c = rw c.requires.explicit at c.requires.within.trailing

pub from_full_quanta-requires-clause-fits :
    goal.from_full_quanta-requires-clause-fits
from_full_quanta-requires-clause-fits c = rw c.requires.explicit at c.requires.within.trailing

pub returns-then-fields-eq0-clause-stored : goal.returns-then-fields-eq0-clause-stored
returns-then-fields-eq0-clause-stored c = c.from_quanta.ensures.stored

pub returns-then-integer_bit-fields-clause-stored : goal.returns-then-integer_bit-fields-clause-stored
returns-then-integer_bit-fields-clause-stored c = c.from_full_quanta.ensures.stored

pub returns-else-integer_bit-fields-clause-stored : goal.returns-else-integer_bit-fields-clause-stored
returns-else-integer_bit-fields-clause-stored c = c.nan_of.ensures.stored

pub from_full_quanta-requires-clause-within :
    goal.from_full_quanta-requires-clause-within
from_full_quanta-requires-clause-within c =
    let k = explicit_kind c.args.shape.nonfinite c.args.shape.explicit_integer_bit c.requires.interchange.explicit
    c.requires.explicit in
    ieee_within (format_at c.args.shape) (layout_at c.args.widths) c.args.fields.trailing
    c.args.fields.biased_exponent c.requires.interchange k
    (rw c.requires.explicit at c.requires.within.trailing) c.requires.within.biased_exponent c.requires.number
