use Rattle.apfloat_ieee.specs.FlaggedTypes.{format_of}
use Rattle.round_to_odd.proofs.Wholes.{unsigned_toward, unsigned_outward}
use Rattle.round_to_odd.proofs.whole_numbers.to_u128_odd.Goals as goal

pub returns-then-truncated-eq1-clause-answer : goal.returns-then-truncated-eq1-clause-answer
returns-then-truncated-eq1-clause-answer g c =
    unsigned_toward (format_of g.S.Flagged) c.args.width c.args.x _ _ _ c.to_u128_r-truncated.ensures.answer
    c.if-truncated-eq1.true

pub returns-else-truncated-eq1-clause-answer : goal.returns-else-truncated-eq1-clause-answer
returns-else-truncated-eq1-clause-answer g c =
    let away = rw c.outward.ensures at c.to_u128_r.ensures.answer in
    unsigned_outward (format_of g.S.Flagged) c.args.width c.args.x _ _ _ _ _ _
    c.to_u128_r-truncated.ensures.answer away c.if-truncated-eq1.false
