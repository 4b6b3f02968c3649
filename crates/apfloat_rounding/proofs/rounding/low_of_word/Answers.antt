use Rattle.std.proofs.lemmas.Nat.{and_mask}
use Rattle.apfloat_rounding.proofs.rounding.low_of_word.Goals as goal

pub returns : goal.returns
returns c = rw c.word_power.ensures (and_mask c.args.word c.args.places)
