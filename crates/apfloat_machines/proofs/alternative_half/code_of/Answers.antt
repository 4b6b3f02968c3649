use Rattle.std.proofs.Common.{subst}
use Rattle.apfloat_model.specs.{bits.Layout.IsEncodedBy, formats.Lawful.Constants, formats.Lawful.format_with}
use Rattle.apfloat_model.specs.formats.Lawful.{layout_with}
use Rattle.apfloat_machines.proofs.AlternativeHalves.{coded, not_coded}
use Rattle.apfloat_machines.proofs.alternative_half.code_of.Goals as goal

pub returns-then-magnitude-lt32768 : goal.returns-then-magnitude-lt32768
returns-then-magnitude-lt32768 g c =
    coded g.W.Flagged.TINY_BEFORE_ROUNDING c.to_bits-bits.result c.args.x
    (subst (λ (k : Constants). IsEncodedBy (format_with k) (layout_with k) c.to_bits-bits.result c.args.x) c.requires
    c.to_bits-bits.ensures.written)
    c.if-magnitude-lt32768.true

pub returns-else-magnitude-lt32768 : goal.returns-else-magnitude-lt32768
returns-else-magnitude-lt32768 g c =
    not_coded g.W.Flagged.TINY_BEFORE_ROUNDING c.to_bits-bits.result c.args.x
    (subst (λ (k : Constants). IsEncodedBy (format_with k) (layout_with k) c.to_bits-bits.result c.args.x) c.requires
    c.to_bits-bits.ensures.written)
    c.if-magnitude-lt32768.false
