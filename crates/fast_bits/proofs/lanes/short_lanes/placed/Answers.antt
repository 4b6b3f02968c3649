use Rattle.std.proofs.Common.{◌≡◌, ◌-◌, ◌*◌, ◌%◌, ◌^◌, ◌<◌, ◌≤◌, arith}
use Rattle.std.proofs.Math.Nat.{mod-eq_of_lt, mul-le-mul_right, pow-le-pow_right}
use Rattle.apfloat_model.proofs.general.Powers.{two_pos}
use Rattle.fast_bits.proofs.lanes.short_lanes.placed.Goals as goal

pub returns : goal.returns
returns c =
    let p = c.args.target.precision in
    let places : c.args.target.precision - 1 ≤ 5 = omega (arith, c.requires.precision) in
    let unit : 2 ^ (c.args.target.precision - 1) ≤ 2 ^ 5 = pow-le-pow_right two_pos places in
    let most : c.args.place ≤ 255 = omega (arith, c.requires.place) in
    let moved : c.args.place * 2 ^ (p - 1) ≤ 255 * 2 ^ (p - 1) = mul-le-mul_right (2 ^ (p - 1)) most in
    let below : c.args.place * 2 ^ (p - 1) < 2 ^ 13 = omega (arith, moved, unit) in
    let same : c.args.place * 2 ^ (p - 1) % 65536 ≡ c.args.place * 2 ^ (p - 1) = mod-eq_of_lt (omega (arith, below)) in
    record { is = same; below = omega (arith, same, below) }
