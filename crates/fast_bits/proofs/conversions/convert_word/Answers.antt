use Rattle.apfloat_ieee.specs.FlaggedTypes.{constants_of}
use Rattle.fast_bits.proofs.Kept.{converted_if_some}
use Rattle.fast_bits.proofs.conversions.convert_word.Goals as goal

pub returns-in-Some : goal.returns-in-Some
returns-in-Some g c =
    converted_if_some (constants_of g.S.Flagged) (constants_of g.T.Flagged) c.args.round c.args.bits c.in-Some.x
    c.convert_number.result c.in-Some.ensures c.convert_number.ensures
