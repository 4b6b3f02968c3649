use Rattle.std.proofs.lemmas.Int.{to_z-of_z}
use Rattle.apfloat_base.proofs.float.Float.scalbn.Goals as goal

pub returns : goal.returns
returns g c = rw (to_z-of_z _ _ c.ranges.exp) at c.scalbn_r.ensures
