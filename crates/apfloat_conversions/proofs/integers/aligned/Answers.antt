use Rattle.std.proofs.Common.{◌-◌, arith}
use Rattle.std.proofs.Math.Nat.{mod-eq_of_lt}
use Rattle.apfloat_model.proofs.rounding.KeptDigits.{fits_shifted, full_shifted}
use Rattle.apfloat_conversions.proofs.integers.aligned.Goals as goal

pub returns-clause-value : goal.returns-clause-value
returns-clause-value c =
    mod-eq_of_lt (fits_shifted c.args.number c.args.count (128 - c.args.count) 128 c.requires.below (omega arith))

pub returns-clause-full : goal.returns-clause-full
returns-clause-full c =
    rw (mod-eq_of_lt (fits_shifted c.args.number c.args.count (128 - c.args.count) 128 c.requires.below (omega arith)))
    (full_shifted c.args.number c.args.count (128 - c.args.count) 128 c.requires.some (λ _. c.requires.full)
    (omega arith))
