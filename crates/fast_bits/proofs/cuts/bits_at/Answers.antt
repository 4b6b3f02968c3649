use Rattle.std.proofs.Common.{refl, arith}
use Rattle.apfloat_ieee.specs.FlaggedTypes.{constants_of}
use Rattle.apfloat_model.proofs.bits.Encodings.{lawful_interchange}
use Rattle.fast_bits.proofs.Encodings.{bits_fit, encoded_inner}
use Rattle.fast_bits.proofs.cuts.bits_at.Goals as goal

pub overflow_mul-result : goal.overflow_mul-result
overflow_mul-result g c =
    let fit = bits_fit (constants_of g.S.Flagged) c.args.negative c.args.place c.args.significand
    (lawful_interchange (constants_of g.S.Flagged) g.S.Flagged.lawful c.requires.bits) c.requires.word.implied
    c.requires.word.bits c.requires.full c.requires.fits c.requires.inner in
    rw c.integer_bit-unit.ensures (record { fits = omega (arith, fit) })

pub overflow_add-result : goal.overflow_add-result
overflow_add-result g c =
    let fit = bits_fit (constants_of g.S.Flagged) c.args.negative c.args.place c.args.significand
    (lawful_interchange (constants_of g.S.Flagged) g.S.Flagged.lawful c.requires.bits) c.requires.word.implied
    c.requires.word.bits c.requires.full c.requires.fits c.requires.inner in
    rw (c.integer_bit-unit.ensures, c.sign_bit-sign.ensures) (record { fits = omega (arith, fit) })

pub overflow_add-result-2 : goal.overflow_add-result-2
overflow_add-result-2 g c =
    let fit = bits_fit (constants_of g.S.Flagged) c.args.negative c.args.place c.args.significand
    (lawful_interchange (constants_of g.S.Flagged) g.S.Flagged.lawful c.requires.bits) c.requires.word.implied
    c.requires.word.bits c.requires.full c.requires.fits c.requires.inner in
    rw (c.integer_bit-unit.ensures, c.sign_bit-sign.ensures) (record { fits = fit })

pub returns : goal.returns
returns g c =
    rw (c.integer_bit-unit.ensures, c.sign_bit-sign.ensures)
    (encoded_inner (constants_of g.S.Flagged) c.args.negative c.args.place c.args.significand _
    (lawful_interchange (constants_of g.S.Flagged) g.S.Flagged.lawful c.requires.bits) c.requires.word.implied
    c.requires.full c.requires.fits c.requires.inner refl)
