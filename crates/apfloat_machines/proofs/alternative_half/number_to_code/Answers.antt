use Rattle.std.proofs.Common.{ap}
use Rattle.apfloat_machines.specs.AlternativeHalves.{wide_constants}
use Rattle.apfloat_machines.proofs.alternative_half.number_to_code.Goals as goal

pub rounded_to_code-requires-clause-wide : goal.rounded_to_code-requires-clause-wide
rounded_to_code-requires-clause-wide g c = ap wide_constants c.if-TINY_BEFORE_ROUNDING.ensures
