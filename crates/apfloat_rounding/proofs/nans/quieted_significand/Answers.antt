use Rattle.apfloat_model.proofs.formats.NanMembers.{or_member}
use Rattle.apfloat_rounding.proofs.nans.quieted_significand.Goals as goal

pub returns-then-signals-clause-nan : goal.returns-then-signals-clause-nan
returns-then-signals-clause-nan c =
    rw c.quiet_bit.ensures (or_member c.args.shape.nonfinite c.args.shape.explicit_integer_bit
    c.args.shape.precision c.args.significand c.args.shape.parameters.precision_low c.requires)
