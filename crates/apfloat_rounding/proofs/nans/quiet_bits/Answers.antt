use Rattle.std.proofs.{Common.◌≤◌, Common.◌-◌, Common.arith, Math.Nat.pow-le-pow_right}
use Rattle.apfloat_model.proofs.general.Powers.{two_pos}
use Rattle.apfloat_rounding.proofs.nans.quiet_bits.Goals as goal

pub overflow_mul-result : goal.overflow_mul-result
overflow_mul-result c =
    let l : c.args.shape.precision - 2 ≤ 123 = omega (arith, c.args.shape.parameters.precision_high) in
    omega (arith, pow-le-pow_right two_pos l, c.power_of_two.ensures)
