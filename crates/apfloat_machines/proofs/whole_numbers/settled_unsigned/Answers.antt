use Rattle.std.proofs.Common.{rules}
use Rattle.apfloat_machines.proofs.whole_numbers.settled_unsigned.Goals as goal

pub returns-then-machine : goal.returns-then-machine
returns-then-machine g c = (
  search rules,
  record {
    value_is = c.unsigned_answer.ensures.value;
    status_is = c.unsigned_answer.ensures.status;
    whole = c.unsigned_answer.ensures.whole;
  },
)
