use Rattle.apfloat_model.specs.rounding.Flags.{bits_of}
use Rattle.apfloat_model.proofs.{formats.LawfulRanges.ranges_of, order.PositiveValues.magnitude_positive}
use Rattle.apfloat_ieee.specs.FlaggedTypes.{constants_of, format_of}
use Rattle.round_to_odd.proofs.Moved.{stays_made, moves_made}
use Rattle.round_to_odd.proofs.odd.made_odd_number.Goals as goal

pub stays-requires : goal.stays-requires
stays-requires g c =
    magnitude_positive (format_of g.S.Flagged) c.args.x c.abs-magnitude.result c.requires.number c.requires.member
    c.abs-magnitude.ensures

pub returns-then-stays : goal.returns-then-stays
returns-then-stays g c =
    let ranges = ranges_of (constants_of g.S.Flagged) g.S.Flagged.lawful in
    stays_made (format_of g.S.Flagged) c.args.negative c.args.x c.abs-magnitude.result c.stays.result
    ranges.precision_low c.requires.number c.abs-magnitude.ensures c.stays.ensures c.if-stays.true

pub returns-else-stays : goal.returns-else-stays
returns-else-stays g c =
    let ranges = ranges_of (constants_of g.S.Flagged) g.S.Flagged.lawful in
    moves_made (format_of g.S.Flagged) c.args.negative c.args.x c.abs-magnitude.result c.next_up.result.value
    c.with_sign.result c.stays.result (bits_of c.next_up.result.status) ranges.precision_low c.requires.number
    c.abs-magnitude.ensures c.stays.ensures c.if-stays.false c.next_up.ensures.next c.with_sign.ensures
