use Rattle.std.proofs.Common.{◌*◌, ◌/◌, ◌%◌, ◌^◌, arith}
use Rattle.std.proofs.lemmas.{Int.ints, Nat.pow_pos}
use Rattle.apfloat_ieee.specs.FlaggedTypes.{format_of}
use Rattle.fast_bits.proofs.{Kept.IsKeptNumber, Kept.shortened_kept, conversions.shortened.Given.Over}
use Rattle.fast_bits.proofs.conversions.shortened.Goals as goal

kept_is : (g : Over) (c : goal.After-struct_known-in-Some-1 g) → IsKeptNumber g.T.Flagged.PRECISION
    (c.args.x.significand / c.power_of-last.result) (c.args.x.significand % c.power_of-last.result)
    c.power_of-half.result c.in-Some.place
    (c.args.x.significand * 2 ^ c.args.x.place * 2 ^ (format_of g.T.Flagged).scale) (2 ^ (format_of g.S.Flagged).scale)
kept_is g c =
    let some = g.T.Flagged.lawful.parameters.precision_low in
    shortened_kept g.T.Flagged.PRECISION g.S.Flagged.PRECISION c.args.x.significand c.args.x.place
    (format_of g.T.Flagged).scale (format_of g.S.Flagged).scale c.in-Some.place c.power_of-last.result
    c.power_of-half.result (omega (arith, some)) c.requires.longer c.requires.x.fits c.requires.x.full
    (rw c.more_digits-places.ensures at c.power_of-last.ensures.value)
    (rw c.more_digits-places.ensures at c.power_of-half.ensures.value)
    (omega (arith, ints, c.in-Some.ensures.0, c.converted_place-from.ensures))

pub encode_cut-requires-clause-full : goal.encode_cut-requires-clause-full
encode_cut-requires-clause-full g c = (kept_is g c).full

pub encode_cut-requires-clause-fits : goal.encode_cut-requires-clause-fits
encode_cut-requires-clause-fits g c = (kept_is g c).fits

pub returns-in-Some : goal.returns-in-Some
returns-in-Some g c =
    let some = g.T.Flagged.lawful.parameters.precision_low in
    let kept = shortened_kept g.T.Flagged.PRECISION g.S.Flagged.PRECISION c.args.x.significand c.args.x.place
    (format_of g.T.Flagged).scale (format_of g.S.Flagged).scale c.in-Some.place c.power_of-last.result
    c.power_of-half.result (omega (arith, some)) c.requires.longer c.requires.x.fits c.requires.x.full
    (rw c.more_digits-places.ensures at c.power_of-last.ensures.value)
    (rw c.more_digits-places.ensures at c.power_of-half.ensures.value)
    (omega (arith, ints, c.in-Some.ensures.0, c.converted_place-from.ensures)) in
    c.encode_cut.ensures _ _ (pow_pos (format_of g.S.Flagged).scale) kept.enclosed kept.stands
