use Rattle.std.proofs.Common.{arith}
use Rattle.apfloat_arrays.proofs.ShortSources.{number_fits}
use Rattle.apfloat_arrays.proofs.bytes.bits_in.Goals as goal

pub overflow_cast-result : goal.overflow_cast-result
overflow_cast-result g c =
    let fits =
    number_fits c.args.bytes.now c.number_of.result g.S.Flagged.BITS
    (λ i. let byte = c.type_inv.bytes i in omega (arith, byte)) c.number_of.ensures
    c.requires.size c.requires.bits
    in omega (arith, fits.word)

pub returns-clause-below : goal.returns-clause-below
returns-clause-below g c =
    (number_fits c.args.bytes.now c.number_of.result g.S.Flagged.BITS
    (λ i. let byte = c.type_inv.bytes i in omega (arith, byte)) c.number_of.ensures
    c.requires.size c.requires.bits).below
