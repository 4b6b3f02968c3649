use Rattle.std.proofs.Common.{rules}
use Rattle.apfloat_rounding.proofs.exponents.unit_place.Goals as goal

pub returns-clause-value : goal.returns-clause-value
returns-clause-value c = search rules steps 500000

pub returns-clause-within : goal.returns-clause-within
returns-clause-within c = record { low = search rules steps 500000; high = search rules steps 500000 }
