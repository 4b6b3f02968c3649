use Rattle.std.proofs.{Common.arith, lemmas.Int.ints, lemmas.Nat.pow_pos}
use Rattle.apfloat_ieee.specs.FlaggedTypes.{format_of}
use Rattle.fast_bits.proofs.Kept.{lengthened_kept}
use Rattle.fast_bits.proofs.conversions.lengthened.Goals as goal

pub returns-in-Some : goal.returns-in-Some
returns-in-Some g c =
    let some = g.T.Flagged.lawful.parameters.precision_low in
    let kept = lengthened_kept g.T.Flagged.PRECISION g.S.Flagged.PRECISION c.args.x.significand c.args.x.place
    (format_of g.T.Flagged).scale (format_of g.S.Flagged).scale c.in-Some.place c.lengthened_significand-kept.result
    (omega (arith, some)) c.requires.shorter c.lengthened_significand-kept.ensures.full
    c.lengthened_significand-kept.ensures.fits c.lengthened_significand-kept.ensures.value
    (omega (arith, ints, c.in-Some.ensures.0, c.converted_place-from.ensures)) in
    c.encode_cut.ensures _ _ (pow_pos (format_of g.S.Flagged).scale) kept.enclosed kept.stands
