use Rattle.std.proofs.Common.{◌≡◌, ℕ, ap, ◌∙◌}
use Rattle.apfloat_ieee.specs.FlaggedTypes.{constants_of}
use Rattle.apfloat_model.proofs.bits.Encodings.{lawful_interchange}
use Rattle.fast_bits.specs.Encoded.{value_in}
use Rattle.fast_bits.proofs.Reading.{word_read}
use Rattle.fast_bits.proofs.numbers.word_of.Goals as goal

pub returns-then-fits_word : goal.returns-then-fits_word
returns-then-fits_word g c =
    let word = c.fits_word.ensures c.if-fits_word.true in
    ap (λ (n : ℕ). value_in (constants_of g.S.Flagged) n) c.low_digits.ensures
    ∙ word_read (constants_of g.S.Flagged) c.args.bits 64
    (lawful_interchange (constants_of g.S.Flagged) g.S.Flagged.lawful c.requires) word.bits
