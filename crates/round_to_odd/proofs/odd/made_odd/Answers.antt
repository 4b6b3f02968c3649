use Rattle.std.proofs.Common.{sym, ◌∙◌, arith}
use Rattle.apfloat_ieee.specs.FlaggedTypes.{constants_of, format_of}
use Rattle.apfloat_model.proofs.formats.LawfulRanges.{ranges_of}
use Rattle.round_to_odd.proofs.Moved.{zero_made}
use Rattle.round_to_odd.proofs.odd.made_odd.Goals as goal

pub returns-in-Zero : goal.returns-in-Zero
returns-in-Zero g c =
    let ranges = ranges_of (constants_of g.S.Flagged) g.S.Flagged.lawful in
    zero_made (format_of g.S.Flagged) c.args.negative c.args.x c.with_sign.result ranges.precision_low
    (sym c.category.ensures.category ∙ c.in-Zero.is) (c.with_sign.ensures 1 (omega arith) c.smallest.ensures)
