use Rattle.std.proofs.Common.{arith}
use Rattle.small_formats.proofs.picks.reaches_whole.Goals as goal

pub power_of_two-requires : goal.power_of_two-requires
power_of_two-requires c = let few = c.args.bits.are_random.few in omega (arith, few)
