use Rattle.std.proofs.Common.{◌≡◌, ◌-◌, refl, subst, Bool, true, false, ℕ, cond}
use Rattle.std.proofs.lemmas.Nat.{pow_pos}
use Rattle.apfloat_model.specs.{formats.Datum.infinite, bits.Interchange.AreFieldsOf, bits.Layout.all_ones}
use Rattle.apfloat_model.proofs.bits.{EncodedOnce.fields_with, FieldsOf.low_fields_of, FieldsOf.infinity_fields_of}
use Rattle.apfloat_rounding.specs.{Shapes.format_at, Encoded.layout_at}
use Rattle.apfloat_rounding.proofs.bits.fields_of_value.Goals as goal

pub returns-in-Zero : goal.returns-in-Zero
returns-in-Zero c =
    let z = rw c.in-Zero.is at c.requires.stored in
    rw c.in-Zero.is (low_fields_of (format_at c.args.shape) (layout_at c.args.widths) c.args.x.negative 0
    c.requires.interchange (pow_pos (c.args.shape.precision - 1)) (λ _. z.sign_is))

written : (explicit : Bool) (half : ℕ) → explicit ≡ true → cond explicit half 0 ≡ half
written b half e = rw e refl

unwritten : (explicit : Bool) (half : ℕ) → explicit ≡ false → cond explicit half 0 ≡ 0
unwritten b half e = rw e refl

pub returns-then-shape : goal.returns-then-shape
returns-then-shape c =
    let f = format_at c.args.shape in
    let l = layout_at c.args.widths in
    let z = rw c.in-Infinity.is at c.requires.stored in
    let h = infinity_fields_of f l c.args.x.negative c.requires.interchange z.kind in
    rw (c.in-Infinity.is, c.greatest_exponent.ensures, c.integer_bit.ensures)
    (subst (λ (x : ℕ). AreFieldsOf f l (fields_with c.args.x.negative (all_ones l.exponent_bits) x)
    (infinite c.args.x.negative)) (written _ _ c.if-shape.true) h)

pub returns-else-shape : goal.returns-else-shape
returns-else-shape c =
    let f = format_at c.args.shape in
    let l = layout_at c.args.widths in
    let z = rw c.in-Infinity.is at c.requires.stored in
    let h = infinity_fields_of f l c.args.x.negative c.requires.interchange z.kind in
    rw (c.in-Infinity.is, c.greatest_exponent.ensures)
    (subst (λ (x : ℕ). AreFieldsOf f l (fields_with c.args.x.negative (all_ones l.exponent_bits) x)
    (infinite c.args.x.negative)) (unwritten _ _ c.if-shape.false) h)
