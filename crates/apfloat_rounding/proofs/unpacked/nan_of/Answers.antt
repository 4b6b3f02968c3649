use Rattle.std.proofs.Common.{rules}
use Rattle.apfloat_rounding.proofs.unpacked.nan_of.Goals as goal

pub returns-in-IEEE754-clause-stored : goal.returns-in-IEEE754-clause-stored
returns-in-IEEE754-clause-stored c = search rules steps 500000

pub returns-in-IEEE754-clause-datum : goal.returns-in-IEEE754-clause-datum
returns-in-IEEE754-clause-datum c = search rules steps 500000

pub returns-in-NanOnly-clause-stored : goal.returns-in-NanOnly-clause-stored
returns-in-NanOnly-clause-stored c = search rules steps 500000

pub returns-in-NanOnly-clause-datum : goal.returns-in-NanOnly-clause-datum
returns-in-NanOnly-clause-datum c = search rules steps 500000

pub returns-in-NanNegativeZero-clause-stored : goal.returns-in-NanNegativeZero-clause-stored
returns-in-NanNegativeZero-clause-stored c = search rules steps 500000

pub returns-in-NanNegativeZero-clause-datum : goal.returns-in-NanNegativeZero-clause-datum
returns-in-NanNegativeZero-clause-datum c = search rules steps 500000
