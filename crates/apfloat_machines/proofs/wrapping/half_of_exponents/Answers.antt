use Rattle.std.proofs.Common.{arith}
use Rattle.std.proofs.lemmas.Int.{ints}
use Rattle.apfloat_ieee.specs.FlaggedTypes.{constants_of}
use Rattle.apfloat_machines.proofs.WrappedAnswers.{half_is}
use Rattle.apfloat_machines.proofs.wrapping.half_of_exponents.Goals as goal

pub returns : goal.returns
returns g c =
    let law = g.S.Flagged.lawful in
    let half = half_is (constants_of g.S.Flagged) law in
    omega (arith, ints, half, law.parameters.max_exp_low, law.parameters.max_exp_high, c.MAX_EXP.ensures)
