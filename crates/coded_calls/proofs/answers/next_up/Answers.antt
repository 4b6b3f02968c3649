use Rattle.std.proofs.Common.{subst}
use Rattle.coded_calls.proofs.answers.next_up.Goals as goal

pub returns : goal.returns
returns g c = record {
  given = c.next_up.result;
  holds = subst (λ x. g.F.Float.meaning.steps_up x c.next_up.result) c.from_bits.ensures c.next_up.ensures;
  is_written = c.written.ensures;
}
