use Rattle.std.proofs.Common.{subst}
use Rattle.coded_calls.proofs.answers.next_down.Goals as goal

pub returns : goal.returns
returns g c = record {
  given = c.next_down.result;
  holds = subst (λ x. g.F.Float.meaning.steps_down x c.next_down.result) c.from_bits.ensures c.next_down.ensures;
  is_written = c.written.ensures;
}
