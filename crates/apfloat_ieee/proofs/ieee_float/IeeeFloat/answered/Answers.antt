use Rattle.std.proofs.Common.{◌∙◌}
use Rattle.apfloat_ieee.proofs.ieee_float.IeeeFloat.answered.Goals as goal

pub returns-clause-status : goal.returns-clause-status
returns-clause-status g c = c.and.ensures.status

pub returns-clause-value : goal.returns-clause-value
returns-clause-value g c = c.and.ensures.value ∙ c.packed.ensures
