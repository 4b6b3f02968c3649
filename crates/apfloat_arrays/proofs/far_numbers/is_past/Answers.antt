use Rattle.std.proofs.{Common.arith, lemmas.Int.ints}
use Rattle.apfloat_arrays.proofs.far_numbers.is_past.Goals as goal

pub overflow_cast-result : goal.overflow_cast-result
overflow_cast-result g c = omega (arith, ints, c.requires)

pub overflow_add-result : goal.overflow_add-result
overflow_add-result g c = omega (arith, ints, g.S.Flagged.lawful.parameters, c.MIN_EXP.ensures, c.requires)

pub overflow_add-result-2 : goal.overflow_add-result-2
overflow_add-result-2 g c = omega (arith, ints, g.T.Flagged.lawful.parameters, c.MAX_EXP.ensures)

pub returns : goal.returns
returns g c = λ test.
    let to = g.T.Flagged.lawful.parameters in
    omega (arith, ints, g.S.Flagged.lawful.parameters, to, c.MIN_EXP.ensures, c.MAX_EXP.ensures, c.requires, test)
