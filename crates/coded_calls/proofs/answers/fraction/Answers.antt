use Rattle.std.proofs.Common.{ap, subst, sym, ◌∙◌}
use Rattle.std.specs.Int.{w32}
use Rattle.std.proofs.lemmas.Int.{to_z-of_z}
use Rattle.rustc_apfloat.specs.Flags.{bits_of}
use Rattle.coded_calls.proofs.answers.fraction.Goals as goal

pub returns : goal.returns
returns g c =
    let exponent = c.frexp_r-fraction.new.exp in
    let means = g.F.Float.meaning in
    let holds = subst (λ x. means.has_fraction x c.args.round c.frexp_r-fraction.result exponent)
    c.from_bits.ensures c.frexp_r-fraction.ensures in
    let fits = c.requires.fits c.args.round c.frexp_r-fraction.result exponent holds in
    record {
      given = c.and.result;
      exponent = exponent;
      holds = subst (λ value. means.has_fraction (means.value_of_bits c.args.x) c.args.round value exponent)
          (sym c.and.ensures.value) holds;
      no_flags = ap bits_of c.and.ensures.status;
      is_written = record {
        is_encoded = c.shown.ensures.is_encoded;
        status_is = c.shown.ensures.status_is;
        number_is = c.shown.ensures.number_is ∙ to_z-of_z w32 exponent fits;
      };
    }
