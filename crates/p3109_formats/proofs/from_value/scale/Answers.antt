use Rattle.std.proofs.Common.{◌-◌, ◌^◌, ◌≤◌, arith}
use Rattle.std.proofs.Math.Nat.{pow-le-pow_right}
use Rattle.apfloat_model.proofs.general.Powers.{two_pos}
use Rattle.p3109_formats.proofs.from_value.scale.Goals as goal

pub returns-clause-within : goal.returns-clause-within
returns-clause-within c =
    let exponent : c.exponent_bits.result - 1 ≤ 14 = omega (arith, c.exponent_bits.ensures.few) in
    let power : 2 ^ (c.exponent_bits.result - 1) ≤ 2 ^ 14 = pow-le-pow_right two_pos exponent in
    omega (arith, power, c.requires.exponent, c.requires.bits_high, c.power_of_two.ensures)
