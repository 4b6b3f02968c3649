use Rattle.std.proofs.Common.{◌/◌, ◌^◌, arith}
use Rattle.fast_bits.proofs.{Kept.word_room, Operands.upper_fits, Operands.upper_full}
use Rattle.fast_bits.proofs.products.upper_digits.Goals as goal

pub overflow_cast-result : goal.overflow_cast-result
overflow_cast-result c =
    let room = word_room c.args.precision (c.args.product / 2 ^ c.args.precision) c.requires.short
    (upper_fits c.args.precision c.args.product c.requires.some c.requires.fits) in
    rw c.power_of_two.ensures (omega (arith, room))

pub returns-clause-fits : goal.returns-clause-fits
returns-clause-fits c =
    rw c.power_of_two.ensures (upper_fits c.args.precision c.args.product c.requires.some c.requires.fits)

pub returns-clause-full : goal.returns-clause-full
returns-clause-full c =
    rw c.power_of_two.ensures (upper_full c.args.precision c.args.product c.requires.some c.requires.full)
