use Rattle.std.proofs.Common.{◌-◌, ◌^◌, ◌≤◌, arith}
use Rattle.std.proofs.{Math.Nat.pow-le-pow_right, lemmas.Nat.div_below, lemmas.Nat.pow_pos}
use Rattle.apfloat_model.proofs.general.Powers.{two_pos}
use Rattle.fast_bits.proofs.lanes.short_lanes.kept.Goals as goal

pub returns-clause-below : goal.returns-clause-below
returns-clause-below c =
    let places : 9 ≤ 15 - c.args.target.precision = omega (arith, c.requires) in
    let unit : 2 ^ 9 ≤ 2 ^ (15 - c.args.target.precision) = pow-le-pow_right two_pos places in
    div_below c.args.digits (2 ^ (15 - c.args.target.precision)) (2 ^ 7) (pow_pos (15 - c.args.target.precision))
    (omega (arith, c.ranges.digits.fits, unit))
