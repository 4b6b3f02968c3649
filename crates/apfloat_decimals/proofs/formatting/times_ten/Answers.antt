use Rattle.std.proofs.Common.{◌+◌, arith}
use Rattle.apfloat_decimals.proofs.spelled.WrittenNumbers.{ten_small, times_ten_small}
use Rattle.apfloat_decimals.proofs.formatting.times_ten.Goals as goal

pub pow-requires : goal.pow-requires
pow-requires c = let few = c.requires in ten_small (c.args.exponent + 1) (omega arith)

pub overflow_mul-result : goal.overflow_mul-result
overflow_mul-result c =
    let small = times_ten_small c.args.digits c.args.exponent c.ranges.digits.fits c.requires in
    record { fits = rw c.pow.ensures small }
