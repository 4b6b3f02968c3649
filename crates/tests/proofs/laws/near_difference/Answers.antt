use Rattle.tests.proofs.Nearby.{near_number, near_ok}
use Rattle.tests.proofs.laws.near_difference.Goals as goal

pub returns-clause-exact : goal.returns-clause-exact
returns-clause-exact g c = λ near. near_number c.args.x c.args.y _ _ near c.sub_r.ensures.nearby

pub returns-clause-ok : goal.returns-clause-ok
returns-clause-ok g c = λ near. near_ok c.args.x c.args.y _ _ near c.sub_r.ensures.nearby
