use Rattle.std.proofs.lemmas.Bool.{ne_eqb}
use Rattle.apfloat_decimals.proofs.formatting.put_some_pointed.Goals as goal

pub returns-then-places-eq0 : goal.returns-then-places-eq0
returns-then-places-eq0 c = rw c.if-places-eq0.true c.put_number.ensures

pub returns-else-places-eq0 : goal.returns-else-places-eq0
returns-else-places-eq0 c = rw (ne_eqb c.args.places 0 c.if-places-eq0.false) c.put_pointed.ensures
