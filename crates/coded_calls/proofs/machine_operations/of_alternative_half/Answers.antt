use Rattle.coded_calls.proofs.machine_operations.of_alternative_half.Goals as goal

pub returns : goal.returns
returns g c =
    record {
      given = c.from_alternative_half.result;
      holds = c.from_alternative_half.ensures;
      is_written = c.written.ensures;
    }
