use Rattle.apfloat_arithmetic.proofs.other_formats_lemmas.RaisedFlags.{raise_together}
use Rattle.apfloat_arithmetic.proofs.other_formats.theorems.flags_go_together.Goals as goal

pub returns : goal.returns
returns c = raise_together
