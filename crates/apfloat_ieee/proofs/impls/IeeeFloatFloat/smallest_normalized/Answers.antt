use Rattle.std.proofs.Common.{◌≡◌, ◌∙◌, subst}
use Rattle.apfloat_model.specs.formats.{Constants.smallest_normalized_datum, Datum.Datum}
use Rattle.apfloat_rounding.specs.declared.{shape.Shape.Shape, unpacked.Unpacked.Unpacked}
use Rattle.apfloat_rounding.specs.{Shapes.format_at, Stored.datum_at}
use Rattle.apfloat_ieee.proofs.impls.IeeeFloatFloat.smallest_normalized.Goals as goal

of_shape : (datum : Datum) (x : Unpacked) (shape other : Shape) → datum ≡ datum_at other x → shape ≡ other
    → datum_at shape x ≡ smallest_normalized_datum (format_at shape)
    → datum ≡ smallest_normalized_datum (format_at other)
of_shape datum x s t d e h = d ∙ subst (λ (r : Shape). datum_at r x ≡ smallest_normalized_datum (format_at r)) e h

pub returns : goal.returns
returns g c = of_shape _ _ _ _ c.packed.ensures c.shape_of.ensures assumption
