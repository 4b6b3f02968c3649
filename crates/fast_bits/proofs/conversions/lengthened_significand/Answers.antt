use Rattle.std.proofs.Common.{arith}
use Rattle.fast_bits.proofs.Kept.{lengthened_fits, lengthened_full, word_room}
use Rattle.fast_bits.proofs.conversions.lengthened_significand.Goals as goal

pub overflow_mul-result : goal.overflow_mul-result
overflow_mul-result g c =
    let room = word_room g.T.Flagged.PRECISION _ c.requires.to
    (lengthened_fits g.T.Flagged.PRECISION g.S.Flagged.PRECISION c.args.significand c.power_of-power.result
    c.requires.shorter c.requires.fits (rw c.more_digits-places.ensures at c.power_of-power.ensures.value)) in
    record { fits = omega (arith, room) }

pub returns-clause-full : goal.returns-clause-full
returns-clause-full g c =
    lengthened_full g.T.Flagged.PRECISION g.S.Flagged.PRECISION c.args.significand c.power_of-power.result
    (omega (arith, g.S.Flagged.lawful.parameters.precision_low)) c.requires.shorter c.requires.full
    (rw c.more_digits-places.ensures at c.power_of-power.ensures.value)

pub returns-clause-fits : goal.returns-clause-fits
returns-clause-fits g c =
    lengthened_fits g.T.Flagged.PRECISION g.S.Flagged.PRECISION c.args.significand c.power_of-power.result
    c.requires.shorter c.requires.fits (rw c.more_digits-places.ensures at c.power_of-power.ensures.value)
