use Rattle.std.proofs.Common.{rules}
use Rattle.apfloat_rounding.proofs.unpacked.infinity_of.Goals as goal

pub returns-in-NanOnly-clause-datum : goal.returns-in-NanOnly-clause-datum
returns-in-NanOnly-clause-datum c = search rules steps 500000
