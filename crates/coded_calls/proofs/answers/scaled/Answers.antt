use Rattle.std.proofs.{Common.ap, Common.sym, Math.Path.subst₃, lemmas.Int.to_z-of_z}
use Rattle.std.specs.Int.{w32}
use Rattle.rustc_apfloat.specs.Flags.{bits_of}
use Rattle.coded_calls.proofs.answers.scaled.Goals as goal

pub returns : goal.returns
returns g c = record {
  given = c.and.result;
  holds = subst₃ (λ x power value. g.F.Float.meaning.scales x power c.args.round value) c.from_bits.ensures
      (to_z-of_z w32 c.args.power c.ranges.power) (sym c.and.ensures.value) c.scalbn_r-scaled.ensures;
  no_flags = ap bits_of c.and.ensures.status;
  is_written = c.written.ensures;
}
