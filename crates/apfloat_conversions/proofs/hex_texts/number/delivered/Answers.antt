use Rattle.std.proofs.Common.{◌∙◌, ◌<◌, ◌^◌, arith, ap, w32}
use Rattle.std.proofs.{lemmas.Int.to_z-of_z, Math.Nat.pos_of_ne-zero}
use Rattle.std.specs.Int.{w128}
use Rattle.apfloat_model.specs.rounding.Flags.{bits_of}
use Rattle.apfloat_rounding.specs.{Shapes.format_at, Stored.datum_at, declared.unpacked.Unpacked.Unpacked}
use Rattle.apfloat_conversions.proofs.hex_texts_lemmas.ReadNumbers.{zero_delivered, fine_digits, bounded}
use Rattle.apfloat_conversions.proofs.hex_texts_lemmas.ReadNumbers.{number_delivered}
use Rattle.apfloat_conversions.proofs.hex_texts.number.delivered.Goals as goal

pub returns-then-digits-eq0-clause-delivered : goal.returns-then-digits-eq0-clause-delivered
returns-then-digits-eq0-clause-delivered c number exact k near =
    zero_delivered (format_at c.args.shape) c.args.round c.args.negative number c.args.digits.significand
    c.args.digits.cut c.args.digits.loss _ _ _ c.if-digits-eq0.true k
    (ap (λ (x : Unpacked). datum_at c.args.shape x) c.and.ensures.value ∙ c.zero_of.ensures.datum)
    (ap bits_of c.and.ensures.status)

pub deliver-requires-clause-fine : goal.deliver-requires-clause-fine
deliver-requires-clause-fine c =
    fine_digits c.args.shape.precision c.requires.kept.0 c.args.digits.significand c.args.digits.cut
    c.args.digits.loss c.args.shape.parameters.precision_high c.requires.kept.1

pub returns-clause-delivered : goal.returns-clause-delivered
returns-clause-delivered c number exact k near =
    let u = to_z-of_z w32 c.unit_exponent-unit.result (record { sfits = c.unit_exponent-unit.type_inv }) in
    let e = to_z-of_z w128 c.args.exponent c.ranges.exponent in
    let n = (rw e at (c.unit_exponent-unit.ensures.near exact)) near in
    let d = rw u at c.deliver.ensures.delivered in
    let some : 0 < c.args.digits.significand = pos_of_ne-zero c.if-digits-eq0.false in
    let small : c.args.digits.significand < 2 ^ 128 = omega arith in
    number_delivered (format_at c.args.shape) c.args.round c.args.negative number c.args.digits.significand
    c.args.digits.cut c.args.places c.args.digits.loss exact
    c.unit_exponent-unit.result _ _ (bounded c.args.shape) some small k n d
