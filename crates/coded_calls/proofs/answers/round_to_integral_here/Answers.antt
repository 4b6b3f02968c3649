use Rattle.std.proofs.Common.{subst}
use Rattle.coded_calls.proofs.answers.round_to_integral_here.Goals as goal

pub returns : goal.returns
returns g c = record {
  given = c.round_to_integral.result;
  holds = subst (λ x. g.F.Float.meaning.rounds_to_integral x c.args.round c.round_to_integral.result)
      c.from_bits.ensures c.round_to_integral.ensures;
  is_written = c.written.ensures;
}
