use Rattle.std.proofs.Common.{sym}
use Rattle.coded_calls.proofs.machine_operations.alternative_half_of.Goals as goal

pub returns : goal.returns
returns g c =
    rw (sym c.value.ensures)
    (record {
      given = c.to_alternative_half-half.result;
      holds = c.to_alternative_half-half.ensures;
      bits_are = c.of.ensures.bits;
      status_is = c.of.ensures.status;
      number_is = c.of.ensures.number;
    })
