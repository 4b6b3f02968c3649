use Rattle.std.proofs.Common.{rules, arith, ◌≤◌, ◌-◌}
use Rattle.std.proofs.Math.Pow.{pow_mono}
use Rattle.apfloat_base.proofs.float.negated_whole.Goals as goal

pub minus-requires : goal.minus-requires
minus-requires c =
    let narrow : c.args.width - 1 ≤ 127 = let h = c.requires.high in omega arith in
    let room = pow_mono narrow in
    search rules

pub minus-requires-else-magnitude-limit : goal.minus-requires-else-magnitude-limit
minus-requires-else-magnitude-limit c =
    let narrow : c.args.width - 1 ≤ 127 = let h = c.requires.high in omega arith in
    let room = pow_mono narrow in
    search rules
