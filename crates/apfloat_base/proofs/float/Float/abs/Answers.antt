use Rattle.apfloat_base.proofs.float.Float.abs.Goals as goal

pub returns-then-is_negative : goal.returns-then-is_negative
returns-then-is_negative g c =
    rw (← c.is_negative.ensures, c.if-is_negative.true) (g.met.Self.Float.neg_law _ _ c.neg.ensures)

pub returns-else-is_negative : goal.returns-else-is_negative
returns-else-is_negative g c = rw (← c.is_negative.ensures, c.if-is_negative.false)
