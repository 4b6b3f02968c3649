use Rattle.std.proofs.Common.{sym}
use Rattle.coded_calls.proofs.machine_operations.integer_modulo.Goals as goal

pub returns : goal.returns
returns g c = rw (sym c.value.ensures) c.to_signed_modulo.ensures
