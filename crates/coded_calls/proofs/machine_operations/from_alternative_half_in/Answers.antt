use Rattle.std.proofs.Common.{refl, sym}
use Rattle.std.proofs.lemmas.Bool.{lt-ltb}
use Rattle.coded_calls.proofs.machine_operations.from_alternative_half_in.Goals as goal

pub returns : goal.returns
returns g c = λ infinite.
    rw (lt-ltb c.args.x 65536 c.if-x.false, sym c.is_aarch64.ensures, c.if-not-is_aarch64.false)
    (refl, c.of_alternative_half.ensures)
