use Rattle.apfloat_rounding.specs.Shapes.{format_at}
use Rattle.apfloat_model.proofs.formats.NanMembers.{signaling_member}
use Rattle.apfloat_rounding.proofs.nans.signaling_significand.Goals as goal

pub returns-clause-nan : goal.returns-clause-nan
returns-clause-nan c =
    rw c.with_payload.ensures rw c.quiet_bit.ensures rw c.quiet_significand-quiet.ensures.value
    (signaling_member (format_at c.args.shape) c.args.payload c.args.shape.parameters.precision_low)
