use Rattle.std.proofs.Common.{rules}
use Rattle.apfloat_rounding.proofs.nans.with_payload.Goals as goal

pub returns-then-significand-payload_mask-eq0 : goal.returns-then-significand-payload_mask-eq0
returns-then-significand-payload_mask-eq0 c = search rules steps 500000
