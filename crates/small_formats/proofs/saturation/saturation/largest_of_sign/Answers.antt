use Rattle.std.proofs.Common.{Bool, ap, sym, ◌∙◌}
use Rattle.apfloat_model.specs.{formats.Datum.finite, formats.Format.largest, rounding.Negation.negated}
use Rattle.apfloat_model.proofs.{whole_numbers.SignedNumbers.largest_some, arithmetic.Signs.negated_some}
use Rattle.apfloat_ieee.specs.FlaggedTypes.{format_of}
use Rattle.small_formats.proofs.saturation.saturation.largest_of_sign.Goals as goal

pub returns-then-negative : goal.returns-then-negative
returns-then-negative g c =
    c.neg.ensures ∙ ap (negated (format_of g.T.Flagged).nonfinite) c.largest-largest.ensures
    ∙ negated_some (format_of g.T.Flagged).nonfinite (largest (format_of g.T.Flagged))
    (largest_some (format_of g.T.Flagged) g.T.Flagged.lawful.parameters.precision_low)
    ∙ ap (λ (b : Bool). finite b (largest (format_of g.T.Flagged))) (sym c.if-negative.true)
