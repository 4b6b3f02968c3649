use Rattle.std.proofs.{Common.refl, Common.rules, lemmas.Int.to_z-of_z}
use Rattle.std.specs.Int.{w128}
use Rattle.coded_calls.proofs.operations.FromSignedCallOperation.made_in.Goals as goal

pub returns : goal.returns
returns g c =
    let left = rw (to_z-of_z w128 c.args.self.number (search rules)) at c.from_signed.ensures in (refl, left)
