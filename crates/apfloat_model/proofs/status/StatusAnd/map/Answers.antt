use Rattle.std.proofs.Common.{refl}
use Rattle.apfloat_model.proofs.status.StatusAnd.map.Goals as goal

pub returns-clause-status : goal.returns-clause-status
returns-clause-status g c = refl

pub returns-clause-value : goal.returns-clause-value
returns-clause-value g c = c.f.ensures
