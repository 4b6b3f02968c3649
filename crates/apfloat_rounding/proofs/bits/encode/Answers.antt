use Rattle.apfloat_model.proofs.bits.{FieldsOf.fields_encode, EncodedOnce.encoded_once}
use Rattle.apfloat_rounding.specs.{Shapes.format_at, Encoded.layout_at, Encoded.fields_at, Stored.datum_at}
use Rattle.apfloat_rounding.proofs.bits.encode.Goals as goal

pub returns-clause-encoded : goal.returns-clause-encoded
returns-clause-encoded c =
    rw c.join.ensures (fields_encode (format_at c.args.shape) (layout_at c.args.widths)
    (fields_at c.fields_of_value-fields.result) (datum_at c.args.shape c.args.x) c.requires.interchange
    c.fields_of_value-fields.ensures)

pub returns-clause-only : goal.returns-clause-only
returns-clause-only c = λ other h.
    let e = fields_encode (format_at c.args.shape) (layout_at c.args.widths) (fields_at c.fields_of_value-fields.result)
    (datum_at c.args.shape c.args.x) c.requires.interchange c.fields_of_value-fields.ensures in
    rw c.join.ensures (encoded_once (format_at c.args.shape) (layout_at c.args.widths)
    (datum_at c.args.shape c.args.x) other _ c.requires.interchange h e)
