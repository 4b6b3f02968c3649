use Rattle.std.proofs.Common.{arith, ◌≤◌, ◌-◌}
use Rattle.std.proofs.Math.Pow.{pow_mono}
use Rattle.apfloat_machines.proofs.whole_numbers.least_signed.Goals as goal

pub minus-requires : goal.minus-requires
minus-requires c =
    let narrow : c.args.width - 1 ≤ 127 = let h = c.requires.high in omega arith in
    rw c.power_of_two.ensures (pow_mono narrow)
