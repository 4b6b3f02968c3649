use Rattle.std.proofs.Common.{refl}
use Rattle.apfloat_ieee.specs.FlaggedTypes.{constants_of}
use Rattle.fast_bits.proofs.Reading.{number_is}
use Rattle.fast_bits.proofs.numbers.normal_number.Goals as goal

pub returns-then-is_of_number : goal.returns-then-is_of_number
returns-then-is_of_number g c =
    let known = c.is_of_number.ensures c.if-is_of_number.true in
    number_is (constants_of g.S.Flagged) c.args.bits c.biased_exponent-biased.result _ c.requires.word.implied
    c.biased_exponent-biased.ensures.value known.0 known.1 c.biased_exponent-biased.ensures.bound
    c.is_minus.ensures refl c.significand_of.ensures.value c.significand_of.ensures.fits
