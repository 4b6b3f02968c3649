use Rattle.apfloat_arithmetic.proofs.other_formats_lemmas.Exponents.{raised_fits, raised_full, raised_word}
use Rattle.apfloat_arithmetic.proofs.other_formats.operands.full_significand.Goals as goal

pub returns-clause-value : goal.returns-clause-value
returns-clause-value c = raised_word c.args.precision c.args.significand c.requires.short c.requires.fits

pub returns-clause-fits : goal.returns-clause-fits
returns-clause-fits c =
    rw (raised_word c.args.precision c.args.significand c.requires.short c.requires.fits)
    (raised_fits c.args.precision c.args.significand c.requires.short c.requires.fits)

pub returns-clause-full : goal.returns-clause-full
returns-clause-full c =
    rw (raised_word c.args.precision c.args.significand c.requires.short c.requires.fits)
    (raised_full c.args.precision c.args.significand c.requires.some c.requires.short c.requires.full)
