use Rattle.std.proofs.Common.{◌+◌, ◌*◌, ◌/◌, ◌%◌, ◌^◌, ℕ, cond, subst, arith}
use Rattle.apfloat_model.specs.{bits.Layout.IsEncodedBy, formats.Datum.finite}
use Rattle.apfloat_model.proofs.{bits.Encodings.lawful_interchange, general.Powers.fits_longer}
use Rattle.apfloat_ieee.specs.FlaggedTypes.{constants_of, format_of, layout_of}
use Rattle.fast_bits.specs.Numbers.{quanta_of}
use Rattle.fast_bits.proofs.Integrals.{IsMovedBack, integral_is, kept_room, moved_back, point_stands, scale_inner}
use Rattle.fast_bits.proofs.integral.round_at_point.Given.{Over}
use Rattle.fast_bits.proofs.integral.round_at_point.Goals.{After-next_word_if-picked}
use Rattle.fast_bits.proofs.integral.round_at_point.Goals as goal

back : (g : Over) (c : After-next_word_if-picked g) → IsMovedBack g.S.Flagged.PRECISION c.args.x.place
    (format_of g.S.Flagged).scale (c.next_word_if-picked.result * 2 ^ c.args.places % 2 ^ 64)
    (cond c.moves_past-moved.result (c.args.x.significand / 2 ^ c.args.places + 1)
    (c.args.x.significand / 2 ^ c.args.places))
back g c =
    moved_back g.S.Flagged.PRECISION c.args.x.significand c.args.x.place c.args.places (format_of g.S.Flagged).scale
    c.next_word_if-picked.result c.moves_past-moved.result c.requires.fit.precise
    c.requires.x.is_full.full c.requires.x.is_full.fits c.requires.near c.requires.at c.next_word_if-picked.ensures

pub next_word_if-picked-requires : goal.next_word_if-picked-requires
next_word_if-picked-requires g c =
    kept_room g.S.Flagged.PRECISION c.args.x.significand c.args.places c.requires.fit.precise
    c.requires.x.is_full.fits

pub bits_at-requires-clause-full : goal.bits_at-requires-clause-full
bits_at-requires-clause-full g c = (back g c).full

pub bits_at-requires-clause-fits : goal.bits_at-requires-clause-fits
bits_at-requires-clause-fits g c = (back g c).fits

pub bits_at-requires-clause-inner : goal.bits_at-requires-clause-inner
bits_at-requires-clause-inner g c =
    let k = constants_of g.S.Flagged in
    let inner = scale_inner k (lawful_interchange k g.S.Flagged.lawful c.requires.bits)
    g.S.Flagged.lawful.parameters c.requires.nonfinite in
    omega (arith, inner, c.requires.at, c.requires.some)

pub returns : goal.returns
returns g c =
    let x = c.args.x in
    let short = fits_longer x.significand g.S.Flagged.PRECISION 62 c.requires.x.is_full.fits
    (omega (arith, c.requires.fit.precise)) in
    integral_is (constants_of g.S.Flagged) c.args.round x.negative c.moves_past-moved.result c.args.bits (quanta_of x)
    (x.significand / 2 ^ c.args.places) c.low_of_word-rest.result c.power_of-half.result _ c.requires.nonfinite
    c.requires.x.read
    (point_stands x.significand x.place c.args.places (format_of g.S.Flagged).scale c.power_of-half.result
    c.low_of_word-rest.result short c.requires.some (omega (arith, c.requires.near, c.requires.fit.precise))
    c.power_of-half.ensures.value c.low_of_word-rest.ensures c.requires.at) c.moves_past-moved.ensures
    c.status_of.ensures.exact c.status_of.ensures.inexact
    (subst
    (λ (n : ℕ). IsEncodedBy (format_of g.S.Flagged) (layout_of g.S.Flagged) c.bits_at.result (finite x.negative n))
    (back g (goal.at.returns g c).After-next_word_if-picked).value c.bits_at.ensures)
