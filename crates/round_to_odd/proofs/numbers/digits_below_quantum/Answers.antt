use Rattle.std.proofs.{Common.arith, lemmas.Int.ints}
use Rattle.apfloat_ieee.specs.FlaggedTypes.{constants_of, format_of}
use Rattle.round_to_odd.proofs.LastDigits.{ends_above, ends_below, scale_is}
use Rattle.round_to_odd.proofs.numbers.digits_below_quantum.Goals as goal

pub returns-then-exponent-quantum : goal.returns-then-exponent-quantum
returns-then-exponent-quantum g c =
    ends_below (format_of g.S.Flagged) g.S.Flagged.MIN_EXP c.args.exponent _
    (scale_is (constants_of g.S.Flagged) g.S.Flagged.lawful)
    (omega (
      arith,
      ints,
      g.S.Flagged.lawful.parameters,
      c.requires,
      c.PRECISION.ensures,
      c.MIN_EXP.ensures,
      c.if-exponent-quantum.true,
    ))

pub returns-else-exponent-quantum : goal.returns-else-exponent-quantum
returns-else-exponent-quantum g c =
    ends_above (format_of g.S.Flagged) g.S.Flagged.MIN_EXP c.args.exponent
    (scale_is (constants_of g.S.Flagged) g.S.Flagged.lawful)
    (omega (
      arith,
      ints,
      g.S.Flagged.lawful.parameters,
      c.requires,
      c.PRECISION.ensures,
      c.MIN_EXP.ensures,
      c.if-exponent-quantum.false,
    ))
