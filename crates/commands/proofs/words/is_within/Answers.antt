use Rattle.std.proofs.Common.{◌^◌, ◌≤◌, ◌<◌, arith, lit<, sym, ◌∙◌}
use Rattle.std.proofs.{Math.Nat.pow-le-pow_right, lemmas.Bool.lt-ltb, lemmas.Bool.le-leb}
use Rattle.commands.proofs.words.is_within.Goals as goal

pub returns-then-width-ge128 : goal.returns-then-width-ge128
returns-then-width-ge128 c =
    let base : 0 < 2 = lit< tt in
    let wide : 2 ^ 128 ≤ 2 ^ c.args.width = pow-le-pow_right base c.if-width-ge128.true in
    let within : c.args.number < 2 ^ c.args.width = omega arith in
    le-leb _ _ c.if-width-ge128.true ∙ sym (lt-ltb _ _ within)
