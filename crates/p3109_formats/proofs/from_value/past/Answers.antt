use Rattle.std.proofs.Common.{ℕ, ap, ◌∙◌}
use Rattle.apfloat_model.specs.rounding.Flags.{bits_of}
use Rattle.p3109_formats.specs.Projections.{projected_datum}
use Rattle.p3109_formats.proofs.Values.{past_projected}
use Rattle.p3109_formats.proofs.from_value.past.Goals as goal

pub returns-clause-delivered : goal.returns-clause-delivered
returns-clause-delivered c = λ amount parts index l.
    let d = c.args.format in
    past_projected d c.args.mode c.args.leads c.args.negative amount parts index c.and.result.value
    (bits_of c.and.result.status) c.requires.sign l
    (ap (λ (code : ℕ). projected_datum d code) c.and.ensures.value ∙ c.past_value.ensures.datum)
    (ap bits_of c.and.ensures.status ∙ c.status_past.ensures)
