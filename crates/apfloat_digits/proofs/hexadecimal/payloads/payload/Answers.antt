use Rattle.std.proofs.Common.{◌≡◌, ℕ, ◌-◌, ◌%◌, ◌^◌, ap, ◌∙◌}
use Rattle.apfloat_model.specs.declared.kinds.NonfiniteBehavior.TheVariants.{IEEE754}
use Rattle.apfloat_ieee.specs.Types.{format_of, layout_of}
use Rattle.apfloat_digits.proofs.hexadecimal_lemmas.NanPayloads.{payload_at_end}
use Rattle.apfloat_digits.proofs.hexadecimal.payloads.payload.Goals as goal

pub returns-in-IEEE754 : goal.returns-in-IEEE754
returns-in-IEEE754 g c =
    let kind : (format_of g.S.Semantics).nonfinite ≡ IEEE754 = cc (c.NONFINITE_BEHAVIOR.ensures, c.in-IEEE754.is) in
    c.low_digits.ensures ∙ ap (λ (p : ℕ). c.to_bits.result % 2 ^ (p - 2)) c.PRECISION.ensures
    ∙ payload_at_end (format_of g.S.Semantics) (layout_of g.S.Semantics) c.args.x c.to_bits.result
    g.S.Semantics.lawful.parameters.precision_low kind c.requires.nan c.to_bits.ensures.back
