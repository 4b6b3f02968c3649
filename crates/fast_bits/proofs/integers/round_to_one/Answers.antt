use Rattle.std.proofs.Common.{refl}
use Rattle.apfloat_model.proofs.bits.Encodings.{lawful_interchange}
use Rattle.apfloat_ieee.specs.FlaggedTypes.{constants_of}
use Rattle.fast_bits.proofs.RoundedIntegers.{to_one_is}
use Rattle.fast_bits.proofs.integers.round_to_one.Goals as goal

pub returns : goal.returns
returns g c =
    let k = constants_of g.S.Flagged in
    to_one_is k c.args.round c.args.bits c.magnitude_of-magnitude.result c.args.negative c.moves_to_one-moved.result _
    (lawful_interchange k g.S.Flagged.lawful c.requires.bits) g.S.Flagged.lawful.parameters c.requires.fit.implied
    c.requires.nonfinite c.magnitude_of-magnitude.ensures c.requires.below c.requires.sign c.moves_to_one-moved.ensures
    c.next_word_if.ensures c.status_of.ensures.exact c.status_of.ensures.inexact refl
