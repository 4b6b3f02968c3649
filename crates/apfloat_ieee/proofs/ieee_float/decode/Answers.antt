use Rattle.std.proofs.Common.{◌≡◌, ◌^◌, ◌<◌, false, sym, refl, subst, ◌∙◌}
use Rattle.std.specs.Bool.{IsTrue}
use Rattle.apfloat_model.specs.formats.Format.{Format}
use Rattle.apfloat_model.specs.bits.Layout.{Layout, Fields, datum_of, fields_of, is_canonical, IsEncodedBy}
use Rattle.apfloat_model.proofs.bits.EncodedOnce.{encoded_once}
use Rattle.apfloat_rounding.specs.Stored.{datum_at}
use Rattle.apfloat_ieee.specs.FlaggedTypes.{shape_of, format_of, layout_of}
use Rattle.apfloat_ieee.proofs.ieee_float.decode.Goals as goal

implied_is_canonical : (format : Format) (layout : Layout) (fields : Fields) → format.explicit_integer_bit ≡ false
    → IsTrue (is_canonical format layout fields)
implied_is_canonical f layout x e = rw e refl

pub returns : goal.returns
returns g c =
    let f = format_of g.S.Flagged in
    let l = layout_of g.S.Flagged in
    let d = rw c.shape_of.ensures at c.decode.ensures.datum in
    let read : c.packed.result ≡ datum_of f l c.args.bits = c.packed.ensures ∙
    subst (λ (k : Layout). datum_at (shape_of g.S.Flagged) c.decode.result ≡ datum_of f k c.args.bits)
    c.widths_of.ensures.value d in
    let back : f.explicit_integer_bit ≡ false → c.args.bits < 2 ^ l.bits → IsEncodedBy f l c.args.bits c.packed.result =
    λ e h.
    record {
      below = h;
      canonical = implied_is_canonical f l (fields_of f l c.args.bits) e;
      is = sym read;
    }
    in
    record {
      read = read;
      back = back;
      once =
          λ e h other is.
          encoded_once f l c.packed.result other c.args.bits c.widths_of.ensures.interchange is (back e h);
    }
