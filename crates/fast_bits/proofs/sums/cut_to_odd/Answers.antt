use Rattle.apfloat_model.proofs.rounding.OddRoundings.{beyond_to_odd}
use Rattle.fast_bits.proofs.sums.cut_to_odd.Goals as goal

pub returns-then-places-ge64 : goal.returns-then-places-ge64
returns-then-places-ge64 c =
    beyond_to_odd c.args.number 64 c.args.places c.if-places-ge64.true c.ranges.number.fits c.requires
