use Rattle.std.proofs.lemmas.Int.{to_z-of_z}
use Rattle.apfloat_base.proofs.float.Float.from_i128.Goals as goal

pub returns : goal.returns
returns g c = rw (to_z-of_z _ _ c.ranges.input) at c.from_i128_r.ensures
