use Rattle.std.proofs.{Common.arith, lemmas.Int.ints}
use Rattle.apfloat_decimals.specs.{Parsing.Spells, ReadBack.IsStoredDecimal, ReadBack.written}
use Rattle.tests.proofs.DecimalRoundTrips.{written_sign}
use Rattle.tests.proofs.decimals.of_text.Goals as goal

pub returns : goal.returns
returns c =
    let d = c.args.decimal in
    let stored : IsStoredDecimal d =
    record { digits = omega arith; exponent_low = omega (arith, ints); exponent_high = omega (arith, ints) } in
    let facts = c.written_text.ensures in
    let spells : Spells c.args.text.now (written d).negative (written d).digits (written d).exponent =
    rw (written_sign d, c.requires) (facts.spells d stored) in
    c.decimal_text_once.ensures.parsed c.args.text.now (written d) c.parse.result (facts.fits d stored) spells
    c.parse.ensures.value
