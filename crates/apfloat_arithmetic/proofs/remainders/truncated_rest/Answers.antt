use Rattle.std.proofs.Common.{◌%◌}
use Rattle.std.proofs.lemmas.Nat.{pow_pos}
use Rattle.apfloat_rounding.specs.Stored.{quanta_of}
use Rattle.apfloat_arithmetic.proofs.NearestMultiples.{rest_in}
use Rattle.apfloat_arithmetic.proofs.remainders.truncated_rest.Goals as goal

pub returns-clause-quanta : goal.returns-clause-quanta
returns-clause-quanta c =
    c.in_quanta.ensures.same (quanta_of c.args.shape c.args.x % quanta_of c.args.shape c.args.y)
    (rest_in _ _ _ _ _ _ (pow_pos _) c.magnitude_of.ensures.units c.magnitude_of-2.ensures.units
    c.remaining_by-rest.ensures.rest)
