use Rattle.std.proofs.Math.Path.{subst₂}
use Rattle.coded_calls.proofs.answers.quotient_of_type_here.Goals as goal

pub returns : goal.returns
returns g c = record {
  given = c.div_r.result;
  holds = subst₂ (λ x y. g.F.Float.meaning.divides x y c.args.round c.div_r.result) c.from_bits-x.ensures
      c.from_bits-y.ensures c.div_r.ensures;
  is_written = c.written.ensures;
}
