use Rattle.std.proofs.Common.{arith}
use Rattle.apfloat_model.proofs.bits.Encodings.{lawful_interchange}
use Rattle.apfloat_ieee.specs.FlaggedTypes.{constants_of}
use Rattle.fast_bits.proofs.Integrals.{below_one_is, one_or_zero, scale_inner}
use Rattle.fast_bits.proofs.integral.round_below_one.Goals as goal

pub bits_at-one-requires-clause-inner : goal.bits_at-one-requires-clause-inner
bits_at-one-requires-clause-inner g c =
    let k = constants_of g.S.Flagged in
    let are = g.S.Flagged.lawful.parameters in
    let inner = scale_inner k (lawful_interchange k g.S.Flagged.lawful c.requires.bits) are c.requires.nonfinite in
    omega (arith, are, inner, c.place_of_one-place.ensures)

pub returns : goal.returns
returns g c =
    let k = constants_of g.S.Flagged in
    let law = lawful_interchange k g.S.Flagged.lawful c.requires.bits in
    below_one_is k c.args.round c.is_minus-negative.result c.moves_to_one-moved.result c.args.bits
    c.magnitude_of-magnitude.result c.place_of_one-place.result _ law g.S.Flagged.lawful.parameters
    c.requires.fit.implied c.requires.nonfinite c.magnitude_of-magnitude.ensures c.place_of_one-place.ensures
    c.requires.below
    c.is_minus-negative.ensures
    (c.moves_to_one-moved.ensures c.place_of_one-place.result c.place_of_one-place.ensures)
    c.status_of.ensures.exact c.status_of.ensures.inexact
    (rw c.either.ensures
    (one_or_zero k c.is_minus-negative.result c.moves_to_one-moved.result c.place_of_one-place.result
    c.integer_bit-unit.result c.bits_at-one.result c.sign_bit-zero.result law c.requires.fit.implied
    c.requires.nonfinite c.place_of_one-place.ensures c.integer_bit-unit.ensures c.sign_bit-zero.ensures
    c.bits_at-one.ensures))
