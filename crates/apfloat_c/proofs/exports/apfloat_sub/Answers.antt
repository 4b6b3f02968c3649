use Rattle.apfloat_c.proofs.exports.apfloat_sub.Goals as goal

pub returns : goal.returns
returns c = rw (← c.number-x.ensures, ← c.number-y.ensures) c.reply_in_kind.ensures
