use Rattle.std.proofs.lemmas.Nat.{and_mask}
use Rattle.apfloat_words.proofs.shift.low_digits.Goals as goal

pub returns : goal.returns
returns c = rw c.power_of_two.ensures (and_mask c.args.number c.args.places)
