use Rattle.std.proofs.{Common.arith, lemmas.Int.ints}
use Rattle.apfloat_arrays.proofs.short_sources.has_finer_quantum.Goals as goal

pub returns : goal.returns
returns g c = λ test.
    let from = g.Z.Flagged.lawful.parameters in
    let to = g.T.Flagged.lawful.parameters in
    omega
    (arith, ints, from, to, c.MIN_EXP.ensures, c.MIN_EXP-2.ensures, c.PRECISION.ensures, c.PRECISION-2.ensures, test)
