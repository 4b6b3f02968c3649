use Rattle.std.proofs.Common.{◌+◌, ◌-◌, arith}
use Rattle.fast_bits.proofs.{Kept.word_room, RootAnswers.root_fits}
use Rattle.fast_bits.proofs.roots.root_digits_in_steps.Goals as goal

pub overflow_cast-result : goal.overflow_cast-result
overflow_cast-result c =
    let room = word_room c.args.precision c.root_of-root.result.whole c.requires.short
    (root_fits c.args.precision (c.args.precision - 1 + c.args.odd) c.args.significand c.root_of-root.result.whole
    c.root_of-root.result.loss (omega (arith, c.requires.some, c.requires.odd)) c.requires.fits
    c.root_of-root.ensures.stands) in
    omega (arith, room)

pub returns-clause-fits : goal.returns-clause-fits
returns-clause-fits c =
    root_fits c.args.precision (c.args.precision - 1 + c.args.odd) c.args.significand c.root_of-root.result.whole
    c.root_of-root.result.loss (omega (arith, c.requires.some, c.requires.odd)) c.requires.fits
    c.root_of-root.ensures.stands
