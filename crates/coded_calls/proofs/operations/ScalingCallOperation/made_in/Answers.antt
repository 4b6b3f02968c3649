use Rattle.std.proofs.{Common.refl, Common.rules, lemmas.Int.to_z-of_z}
use Rattle.std.specs.Int.{w32}
use Rattle.coded_calls.proofs.operations.ScalingCallOperation.made_in.Goals as goal

pub returns : goal.returns
returns g c =
    let left = rw (to_z-of_z w32 c.args.self.power (search rules)) at c.scaled.ensures in (refl, left)
