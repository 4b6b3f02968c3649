use Rattle.std.proofs.Common.{arith}
use Rattle.apfloat_model.proofs.arithmetic.Significands.{lengthened_fits, lengthened_full, lengthened_whole}
use Rattle.small_formats.proofs.quanta.lengthened.Goals as goal

pub returns-clause-value : goal.returns-clause-value
returns-clause-value c =
    lengthened_whole c.args.precision c.args.significand 125 (omega arith) c.requires.precise c.requires.fits

pub returns-clause-low : goal.returns-clause-low
returns-clause-low c =
    rw (lengthened_whole c.args.precision c.args.significand 125 (omega arith) c.requires.precise c.requires.fits)
    (lengthened_full c.args.precision c.args.significand 125 c.requires.some c.requires.precise c.requires.full)

pub returns-clause-high : goal.returns-clause-high
returns-clause-high c =
    rw (lengthened_whole c.args.precision c.args.significand 125 (omega arith) c.requires.precise c.requires.fits)
    (lengthened_fits c.args.precision c.args.significand 125 c.requires.precise c.requires.fits)
