use Rattle.std.proofs.Math.Path.{subst₂}
use Rattle.coded_calls.proofs.answers.nearest_remainder.Goals as goal

pub returns : goal.returns
returns g c = record {
  given = c.ieee_rem.result;
  holds = subst₂ (λ x y. g.F.Float.meaning.leaves_nearest x y c.ieee_rem.result) c.from_bits-x.ensures
      c.from_bits-y.ensures c.ieee_rem.ensures;
  is_written = c.written.ensures;
}
