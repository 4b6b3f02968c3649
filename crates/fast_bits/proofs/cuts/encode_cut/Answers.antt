use Rattle.std.proofs.Common.{ℕ, ◌+◌, ◌*◌, ◌^◌, cond, subst, arith}
use Rattle.apfloat_model.specs.{bits.Layout.IsEncodedBy, formats.Datum.finite}
use Rattle.apfloat_model.proofs.bits.Encodings.{lawful_interchange}
use Rattle.apfloat_ieee.specs.FlaggedTypes.{constants_of, format_of, layout_of}
use Rattle.fast_bits.proofs.{Kept.word_room, Roundings.inner_delivered, Roundings.moved_high, Roundings.moved_low}
use Rattle.fast_bits.proofs.cuts.encode_cut.Goals as goal

pub next_word_if-picked-requires : goal.next_word_if-picked-requires
next_word_if-picked-requires g c = word_room g.S.Flagged.PRECISION c.args.kept c.requires.word.precise c.requires.fits

pub bits_at-bits-requires-clause-full : goal.bits_at-bits-requires-clause-full
bits_at-bits-requires-clause-full g c =
    rw c.next_word_if-picked.ensures (omega (arith, moved_low c.moves_past-moved.result c.args.kept, c.requires.full))

pub bits_at-bits-requires-clause-fits : goal.bits_at-bits-requires-clause-fits
bits_at-bits-requires-clause-fits g c =
    rw c.next_word_if-picked.ensures (omega (arith, moved_high c.moves_past-moved.result c.args.kept, c.requires.fits))

pub returns : goal.returns
returns g c = λ amount parts some enclosed stands. record {
  quanta = cond c.moves_past-moved.result (c.args.kept + 1) c.args.kept * 2 ^ c.args.place;
  is_delivered =
      inner_delivered (constants_of g.S.Flagged) c.args.round c.args.negative c.moves_past-moved.result c.args.kept
      c.args.place amount parts c.args.rest c.args.half _
      (lawful_interchange (constants_of g.S.Flagged) g.S.Flagged.lawful c.requires.bits) c.requires.inner
      c.requires.full c.requires.fits some c.moves_past-moved.ensures enclosed stands c.status_of.ensures.exact
      c.status_of.ensures.inexact;
  is_encoded =
      subst
      (λ (n : ℕ). IsEncodedBy (format_of g.S.Flagged) (layout_of g.S.Flagged) c.bits_at-bits.result
      (finite c.args.negative (n * 2 ^ c.args.place))) c.next_word_if-picked.ensures c.bits_at-bits.ensures;
}
