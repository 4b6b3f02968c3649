use Rattle.std.proofs.Common.{◌∙◌, arith}
use Rattle.std.proofs.Math.{Nat.mod-eq_of_lt, Pow.pow-lt}
use Rattle.apfloat_words.proofs.shift.power_of_two.Goals as goal

pub returns : goal.returns
returns c =
    let room = pow-lt c.requires in
    mod-eq_of_lt (omega arith) ∙ omega arith
