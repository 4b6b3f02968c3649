use Rattle.std.proofs.Common.{◌^◌}
use Rattle.apfloat_rounding.specs.Shapes.{format_at}
use Rattle.apfloat_rounding.proofs.{CutRests.within_format, FineCuts.below_last}
use Rattle.apfloat_rounding.proofs.rounding.stays_within.Goals as goal

pub returns-clause-within : goal.returns-clause-within
returns-clause-within c = λ e.
    within_format (format_at c.args.shape) c.args.significand c.args.place c.args.shape.parameters.precision_low
    (below_last c.args.significand (2 ^ c.args.shape.precision) (rw c.power_of_two.ensures at e) c.requires.fits)
    (rw c.span.ensures.value at c.if-place-span.false)
