use Rattle.std.proofs.Common.{arith, refl, ◌<◌}
use Rattle.commands.proofs.Hexadecimals.{write_none, write_more}
use Rattle.commands.proofs.output.hexadecimal.Goals as goal

pub loop-place-init : goal.loop-place-init
loop-place-init c = write_none c.args.number _ refl

pub loop-place-preserved : goal.loop-place-preserved
loop-place-preserved c =
    let within : c.loop-place.place < 32 = omega arith in
    write_more _ _ _ _ _ within c.loop-place.invariant c.hexadecimal_digit.ensures
