use Rattle.std.proofs.Common.{◌-◌, ◌*◌, ◌%◌, ◌^◌, arith, refl}
use Rattle.apfloat_ieee.specs.FlaggedTypes.{constants_of, format_of}
use Rattle.fast_bits.proofs.RoundedIntegers.{IsCutWord, cut_word, normal_is}
use Rattle.fast_bits.proofs.integers.round_normal.Given.{Over}
use Rattle.fast_bits.proofs.integers.round_normal.Goals.{After-moves_past-moved}
use Rattle.fast_bits.proofs.integers.round_normal.Goals as goal

cut : (g : Over) (c : After-moves_past-moved g) → IsCutWord c.significand_of.result (c.args.biased - 1)
    (format_of g.S.Flagged).scale (c.significand_of.result * 2 ^ (62 - c.PRECISION.result) % 2 ^ 64)
    c.word_places-shift.result
cut g c =
    rw c.PRECISION.ensures
    (cut_word g.S.Flagged.PRECISION c.significand_of.result (c.args.biased - 1) c.args.places
    (format_of g.S.Flagged).scale c.word_places-shift.result c.requires.fit.precise c.significand_of.ensures.fits
    (c.word_places-shift.ensures.some c.requires.some) c.word_places-shift.ensures.bound
    c.word_places-shift.ensures.near c.word_places-shift.ensures.far
    (omega (arith, c.requires.at, c.requires.normal, g.S.Flagged.lawful.parameters.precision_low)))

pub next_word_if-requires : goal.next_word_if-requires
next_word_if-requires g c = omega (arith, (cut g c).small)

pub returns : goal.returns
returns g c =
    normal_is (constants_of g.S.Flagged) c.args.round c.args.bits c.args.biased c.significand_of.result _
    c.word_places-shift.result c.args.negative c.moves_past-moved.result _ c.requires.fit.implied c.requires.sign
    c.requires.biased c.requires.normal c.requires.number c.significand_of.ensures.value
    (cut g (goal.at.returns g c).After-moves_past-moved) c.moves_past-moved.ensures c.next_word_if.ensures
    c.status_of.ensures.exact c.status_of.ensures.inexact refl
