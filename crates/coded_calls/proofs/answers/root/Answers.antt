use Rattle.std.proofs.Common.{subst}
use Rattle.coded_calls.proofs.answers.root.Goals as goal

pub returns : goal.returns
returns g c = record {
  given = c.sqrt_r.result;
  holds = subst (λ x. g.F.ValueType.takes_root x c.args.round c.sqrt_r.result) c.from_bits.ensures c.sqrt_r.ensures;
  is_written = c.written.ensures;
}
