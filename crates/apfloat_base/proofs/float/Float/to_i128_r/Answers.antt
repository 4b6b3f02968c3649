use Rattle.std.proofs.Common.{rules}
use Rattle.apfloat_base.proofs.float.Float.to_i128_r.Goals.{then-is_negative, else-is_negative}
use Rattle.apfloat_base.proofs.float.Float.to_i128_r.Goals as goal

pub returns : goal.returns
returns g c =
    elim c.if-is_negative.branch [
      | then-is_negative w ↦ search rules steps 1000000
      | else-is_negative w ↦ search rules steps 1000000
    ]
