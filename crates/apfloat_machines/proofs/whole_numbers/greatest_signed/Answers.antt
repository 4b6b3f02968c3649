use Rattle.std.proofs.Common.{arith, ◌≤◌, ◌-◌}
use Rattle.std.proofs.{Math.Pow.pow_mono, lemmas.Nat.pow_pos}
use Rattle.apfloat_machines.proofs.whole_numbers.greatest_signed.Goals as goal

pub signed-requires : goal.signed-requires
signed-requires c =
    let narrow : c.args.width - 1 ≤ 127 = let h = c.requires.high in omega arith in
    let room = pow_mono narrow in
    let some = pow_pos (c.args.width - 1) in
    rw c.power_of_two.ensures (omega arith)
