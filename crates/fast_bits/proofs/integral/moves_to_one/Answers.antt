use Rattle.std.proofs.Common.{◌-◌, ◌^◌, ◌≤◌, false, arith}
use Rattle.std.proofs.{Math.Nat.mul-pos, Math.Nat.pow-le-pow_right, lemmas.Int.ints, lemmas.Nat.pow_pos}
use Rattle.apfloat_model.proofs.{bits.Encodings.lawful_interchange, general.Powers.two_pos}
use Rattle.apfloat_ieee.specs.FlaggedTypes.{constants_of}
use Rattle.fast_bits.proofs.{Encodings.bits_fit, Integrals.scale_inner}
use Rattle.fast_bits.proofs.integral.moves_to_one.Goals as goal

pub overflow_mul-half : goal.overflow_mul-half
overflow_mul-half g c =
    let k = constants_of g.S.Flagged in
    let are = g.S.Flagged.lawful.parameters in
    let law = lawful_interchange k g.S.Flagged.lawful c.requires.bits in
    let inner = scale_inner k law are c.requires.nonfinite in
    let fewer : k.precision - 1 ≤ k.precision = omega arith in
    let half_low : 2 ^ (k.precision - 1) ≤ 2 ^ k.precision = pow-le-pow_right two_pos fewer in
    let fit = bits_fit k false c.place_of_one.result (2 ^ (k.precision - 1)) law c.requires.fit.implied
    c.requires.fit.bits (omega arith) half_low (omega (arith, are, inner, c.place_of_one.ensures)) in
    rw c.integer_bit.ensures (record { fits = omega (arith, fit) })

pub moves_past-requires : goal.moves_past-requires
moves_past-requires g c =
    rw c.integer_bit.ensures
    (mul-pos (omega (arith, ints, g.S.Flagged.lawful.parameters, c.place_of_one.ensures))
    (pow_pos (g.S.Flagged.PRECISION - 1)))
