use Rattle.apfloat_rounding.specs.Shapes.{format_at}
use Rattle.apfloat_model.proofs.formats.NanMembers.{quiet_member}
use Rattle.apfloat_rounding.proofs.nans.quiet_significand.Goals as goal

pub returns-clause-nan : goal.returns-clause-nan
returns-clause-nan c =
    rw c.nan_base.ensures rw c.quiet_bits.ensures rw c.payload_mask.ensures
    (quiet_member (format_at c.args.shape) c.args.payload c.args.shape.parameters.precision_low)
