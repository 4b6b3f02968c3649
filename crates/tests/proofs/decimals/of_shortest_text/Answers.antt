use Rattle.std.proofs.Common.{◌≡◌, arith}
use Rattle.std.proofs.lemmas.Int.{ints}
use Rattle.rustc_apfloat.specs.Types.{format_of}
use Rattle.apfloat_model.specs.{declared.kinds.Round.TheVariants.NearestTiesToEven, rounding.Flags.bits_of}
use Rattle.apfloat_decimals.specs.{Parsing.Spells, ReadBack.IsStoredDecimal, ReadBack.written}
use Rattle.tests.proofs.DecimalRoundTrips.{ok_and}
use Rattle.tests.proofs.decimals.of_shortest_text.Goals as goal

pub returns : goal.returns
returns g c =
    let f = format_of g.S.Semantics in
    let d = c.args.decimal in
    let stored : IsStoredDecimal d =
    record { digits = omega arith; exponent_low = omega (arith, ints); exponent_high = omega (arith, ints) } in
    let facts = c.written_text.ensures in
    let spells : Spells c.args.text.now d.negative (written d).digits (written d).exponent =
    rw c.requires.text (facts.spells d stored) in
    let read =
    c.decimal_text_once.ensures.read f NearestTiesToEven c.args.text.now c.read_decimal.result d.negative
    (written d).digits (written d).exponent spells c.read_decimal.ensures in
    ok_and c.read_decimal.result _ (λ answer. answer.value ≡ c.args.x)
    (λ answer delivered.
    c.shortest_reads_back.ensures f c.args.x d (written d).digits (written d).exponent answer.value
    (bits_of answer.status) (omega (arith, g.S.Semantics.lawful.parameters.precision_low))
    c.category.ensures.member c.requires.shortest (facts.number d) delivered) read
