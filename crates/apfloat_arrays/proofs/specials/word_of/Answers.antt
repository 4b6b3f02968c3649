use Rattle.std.proofs.Common.{◌≡◌, ◌*◌, length, arith}
use Rattle.apfloat_arrays.proofs.ShortSources.{number_fits}
use Rattle.apfloat_arrays.proofs.specials.word_of.Goals as goal

pub overflow_cast-result : goal.overflow_cast-result
overflow_cast-result c =
    let four = c.requires in
    let size : 8 * length c.args.bytes.now ≡ 32 = omega (arith, four) in
    let fits =
    number_fits c.args.bytes.now c.number_of.result 32 (λ i. let byte = c.type_inv.bytes i in omega (arith, byte))
    c.number_of.ensures size (omega arith) in
    omega (arith, fits.word)
