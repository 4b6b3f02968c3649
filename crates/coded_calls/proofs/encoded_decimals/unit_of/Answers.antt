use Rattle.std.proofs.{Common.arith, lemmas.Int.ints}
use Rattle.coded_calls.proofs.encoded_decimals.unit_of.Goals as goal

pub returns-clause-value : goal.returns-clause-value
returns-clause-value g c =
    let are = g.S.Flagged.lawful.parameters in omega (arith, ints, are, c.MIN_EXP.ensures, c.requires)

pub returns-clause-within : goal.returns-clause-within
returns-clause-within g c =
    let are = g.S.Flagged.lawful.parameters in
    record {
      low = omega (arith, ints, are, c.MIN_EXP.ensures, c.requires);
      high = omega (arith, ints, are, c.MIN_EXP.ensures, c.requires);
    }
