use Rattle.std.proofs.Common.{subst}
use Rattle.apfloat_model.specs.rounding.Flags.{bits_of}
use Rattle.apfloat_rounding.specs.{Shapes.format_at, Stored.datum_at}
use Rattle.apfloat_arithmetic.specs.declared.other_formats.operands.Operand.{Operand}
use Rattle.apfloat_arithmetic.specs.other_formats.Extended.{Extended, number, infinity}
use Rattle.apfloat_arithmetic.specs.other_formats.{Operands.StandsFor, FormatOf.IsFusedSumOf}
use Rattle.apfloat_arithmetic.proofs.other_formats_lemmas.Cases.{of_infinity, of_number}
use Rattle.apfloat_arithmetic.proofs.other_formats.fused.multiply_add.Goals as goal

pub returns-in-Infinity-y-clause-sum : goal.returns-in-Infinity-y-clause-sum
returns-in-Infinity-y-clause-sum c = λ left right addend hx hy hz.
    let s = c.args.into in
    let v = datum_at s c.multiply_add_infinity.result.value in
    let i = bits_of c.multiply_add_infinity.result.status in
    let sum = rw c.product_sign.ensures at c.multiply_add_infinity.ensures.sum in
    of_number (λ (e : Extended). IsFusedSumOf (format_at s) c.args.round e right addend v i) s c.in-Number.left left
    (subst (λ (o : Operand). StandsFor s left o) c.in-Number.is hx)
    (λ m k h. of_infinity (λ (e : Extended). IsFusedSumOf (format_at s) c.args.round
    (number c.in-Number.left.negative m k) e addend v i) s c.in-Infinity-y.negative right
    (subst (λ (o : Operand). StandsFor s right o) c.in-Infinity-y.is hy) (sum m k c.args.round addend h hz))

pub returns-in-Number-y-2-clause-sum : goal.returns-in-Number-y-2-clause-sum
returns-in-Number-y-2-clause-sum c = λ left right addend hx hy hz.
    let s = c.args.into in
    let v = datum_at s c.multiply_add_infinity-in-Number-y-2.result.value in
    let i = bits_of c.multiply_add_infinity-in-Number-y-2.result.status in
    let sum = rw c.product_sign-in-Number-y-2.ensures at c.multiply_add_infinity-in-Number-y-2.ensures.sum in
    of_infinity (λ (e : Extended). IsFusedSumOf (format_at s) c.args.round e right addend v i) s
    c.in-Infinity.negative left (subst (λ (o : Operand). StandsFor s left o) c.in-Infinity.is hx)
    (of_number (λ (e : Extended). IsFusedSumOf (format_at s) c.args.round (infinity c.in-Infinity.negative) e
    addend v i) s c.in-Number-y-2.right right (subst (λ (o : Operand). StandsFor s right o) c.in-Number-y-2.is hy)
    (λ m k h. sum m k c.args.round addend h hz))

pub returns-in-Infinity-y-2-clause-sum : goal.returns-in-Infinity-y-2-clause-sum
returns-in-Infinity-y-2-clause-sum c = λ left right addend hx hy hz.
    let s = c.args.into in
    let v = datum_at s c.add_to_infinity.result.value in
    let i = bits_of c.add_to_infinity.result.status in
    let sum = rw c.product_sign-in-Infinity-y-2.ensures at c.add_to_infinity.ensures.sum in
    of_infinity (λ (e : Extended). IsFusedSumOf (format_at s) c.args.round e right addend v i) s
    c.in-Infinity.negative left (subst (λ (o : Operand). StandsFor s left o) c.in-Infinity.is hx)
    (of_infinity (λ (e : Extended). IsFusedSumOf (format_at s) c.args.round (infinity c.in-Infinity.negative) e addend
    v i) s c.in-Infinity-y-2.other right (subst (λ (o : Operand). StandsFor s right o) c.in-Infinity-y-2.is hy)
    (sum c.args.round addend hz))
