use Rattle.std.proofs.Common.{refl}
use Rattle.apfloat_model.proofs.status.StatusFlags.flags.Goals as goal

pub returns : goal.returns
returns c = λ _. refl
