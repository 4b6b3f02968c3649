use Rattle.std.proofs.Common.{Bool, ap, sym, ◌∙◌}
use Rattle.apfloat_model.specs.{formats.Datum.finite, formats.Format.largest, rounding.Negation.negated}
use Rattle.apfloat_model.proofs.{whole_numbers.SignedNumbers.largest_some, arithmetic.Signs.negated_some}
use Rattle.apfloat_ieee.specs.Types.{format_of}
use Rattle.small_formats.proofs.blocks.elements.saturated.Goals as goal

-- as `largest_of_sign` of apfloat_arrays
pub returns-then-negative-clause-past : goal.returns-then-negative-clause-past
returns-then-negative-clause-past g c = λ off. c.neg.ensures ∙ ap (negated (format_of g.T.Semantics).nonfinite)
    c.largest-largest.ensures ∙ negated_some (format_of g.T.Semantics).nonfinite (largest (format_of g.T.Semantics))
    (largest_some (format_of g.T.Semantics) g.T.Semantics.lawful.parameters.precision_low)
    ∙ ap (λ (b : Bool). finite b (largest (format_of g.T.Semantics))) (sym c.if-negative.true)
