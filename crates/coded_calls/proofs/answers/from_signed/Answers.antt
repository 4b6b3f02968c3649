use Rattle.std.proofs.{Common.subst, lemmas.Int.to_z-of_z}
use Rattle.std.specs.Int.{w128}
use Rattle.coded_calls.proofs.answers.from_signed.Goals as goal

pub returns : goal.returns
returns g c = record {
  given = c.from_i128_r.result;
  holds = subst (λ n. g.F.Float.meaning.converts_signed n c.args.round c.from_i128_r.result)
      (to_z-of_z w128 c.args.number c.ranges.number) c.from_i128_r.ensures;
  is_written = c.written.ensures;
}
