use Rattle.std.proofs.Math.Path.{subst₂}
use Rattle.coded_calls.proofs.answers.truncated_remainder.Goals as goal

pub returns : goal.returns
returns g c = record {
  given = c.c_fmod.result;
  holds = subst₂ (λ x y. g.F.Float.meaning.leaves x y c.c_fmod.result) c.from_bits-x.ensures
      c.from_bits-y.ensures c.c_fmod.ensures;
  is_written = c.written.ensures;
}
