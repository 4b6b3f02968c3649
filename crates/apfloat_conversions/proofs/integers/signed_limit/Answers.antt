use Rattle.std.proofs.Common.{◌≡◌, ℕ, ◌-◌, ◌^◌, ◌≤◌, Bool, true, false, cond, arith}
use Rattle.std.proofs.Math.Nat.{pow-le-pow_right}
use Rattle.apfloat_model.proofs.general.Powers.{two_pos}
use Rattle.apfloat_conversions.specs.Wholes.{signed_limit}
use Rattle.apfloat_conversions.proofs.integers.signed_limit.Goals as goal

limit_fits : (negative : Bool) (end less : ℕ) → end ≤ 2 ^ 127 → less ≡ cond negative 0 1
    → end - less ≤ signed_limit 128 negative
limit_fits true end less m e = omega (arith, m)
limit_fits false end less m e = omega (arith, m, e)

pub returns-clause-fits : goal.returns-clause-fits
returns-clause-fits c =
    let short : c.args.width - 1 ≤ 127 = omega (arith, c.requires.high) in
    let most : c.power_of_two.result ≤ 2 ^ 127 = rw c.power_of_two.ensures (pow-le-pow_right two_pos short) in
    limit_fits c.args.negative c.power_of_two.result c.below_power.result most c.below_power.ensures
