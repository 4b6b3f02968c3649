use Rattle.apfloat_pair_theory.proofs.parts.DenormalPairs.{is_denormal_is}
use Rattle.apfloat_pair_theory.proofs.denormal_law.Goals as goal

pub returns : goal.returns
returns c = is_denormal_is
