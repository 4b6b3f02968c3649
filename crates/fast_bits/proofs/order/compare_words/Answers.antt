use Rattle.std.proofs.Common.{◌∙◌, ap, Some}
use Rattle.apfloat_ieee.specs.FlaggedTypes.{constants_of}
use Rattle.apfloat_model.proofs.bits.Encodings.{lawful_interchange}
use Rattle.fast_bits.proofs.Magnitudes.{places_compared}
use Rattle.fast_bits.proofs.order.compare_words.Goals as goal

pub returns : goal.returns
returns g c =
    let law = lawful_interchange (constants_of g.S.Flagged) g.S.Flagged.lawful c.requires.bits in
    ap Some c.cmp.ensures
    ∙ places_compared (constants_of g.S.Flagged) c.args.x c.args.y c.in-Some.left c.in-Some-place_of.right law
    c.requires.implied c.in-Some.ensures.some c.in-Some-place_of.ensures.some
