use Rattle.std.proofs.Common.{true, false}
use Rattle.apfloat_model.specs.rounding.Flags.{bits_of}
use Rattle.apfloat_model.proofs.formats.LawfulRanges.{ranges_of}
use Rattle.apfloat_ieee.specs.FlaggedTypes.{constants_of, format_of}
use Rattle.apfloat_machines.proofs.Twos.{two_delivered}
use Rattle.apfloat_machines.proofs.extended.two.Goals as goal

pub returns-then-negative : goal.returns-then-negative
returns-then-negative g c =
    rw c.if-negative.true
    (two_delivered (format_of g.S.Flagged) true c.from_i128.result.value (bits_of c.from_i128.result.status)
    (ranges_of (constants_of g.S.Flagged) g.S.Flagged.lawful) c.from_i128.ensures)

pub returns-else-negative : goal.returns-else-negative
returns-else-negative g c =
    rw c.if-negative.false
    (two_delivered (format_of g.S.Flagged) false c.from_i128-else-negative.result.value
    (bits_of c.from_i128-else-negative.result.status)
    (ranges_of (constants_of g.S.Flagged) g.S.Flagged.lawful) c.from_i128-else-negative.ensures)
