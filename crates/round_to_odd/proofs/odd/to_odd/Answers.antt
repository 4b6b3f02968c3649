use Rattle.std.proofs.Common.{◌≡◌, true, false, refl, sym, ap, ◌∙◌}
use Rattle.apfloat_model.specs.rounding.{Flags.bits_of, Rounding.inexact_bit}
use Rattle.apfloat_model.proofs.general.Choices.{match_true, match_false}
use Rattle.apfloat_model.proofs.formats.LawfulRanges.{ranges_of}
use Rattle.apfloat_ieee.specs.FlaggedTypes.{constants_of, format_of}
use Rattle.round_to_odd.specs.Odd.{has_flag}
use Rattle.round_to_odd.proofs.MadeOdd.{odd_of_truncated}
use Rattle.round_to_odd.proofs.odd.to_odd.Goals as goal

pub returns-then-intersects-clause-odd : goal.returns-then-intersects-clause-odd
returns-then-intersects-clause-odd g c = λ amount parts some d.
    let f = format_of g.S.Flagged in
    let ranges = ranges_of (constants_of g.S.Flagged) g.S.Flagged.lawful in
    odd_of_truncated f c.args.negative amount parts c.args.answer c.and.result ranges.precision_low some d
    (record {
      status_is = ap bits_of c.and.ensures.status;
      value_is = match_true _ _ _ (sym (c.intersects.ensures tt) ∙ c.if-intersects.true)
          (rw c.and.ensures.value c.made_odd.ensures);
    })

pub returns-else-intersects-clause-odd : goal.returns-else-intersects-clause-odd
returns-else-intersects-clause-odd g c = λ amount parts some d.
    let f = format_of g.S.Flagged in
    let ranges = ranges_of (constants_of g.S.Flagged) g.S.Flagged.lawful in
    let flag : has_flag (bits_of c.args.answer.status) inexact_bit ≡ false =
    sym (c.intersects.ensures tt) ∙ c.if-intersects.false in
    odd_of_truncated f c.args.negative amount parts c.args.answer c.args.answer ranges.precision_low some d
    (record { status_is = refl; value_is = match_false _ _ _ flag refl })
