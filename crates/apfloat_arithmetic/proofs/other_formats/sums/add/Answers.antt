use Rattle.std.proofs.Common.{subst}
use Rattle.apfloat_model.specs.rounding.Flags.{bits_of}
use Rattle.apfloat_rounding.specs.{Shapes.format_at, Stored.datum_at}
use Rattle.apfloat_arithmetic.specs.declared.other_formats.operands.Operand.{Operand}
use Rattle.apfloat_arithmetic.specs.other_formats.{Extended.Extended, Operands.StandsFor, FormatOf.IsSumOf}
use Rattle.apfloat_arithmetic.proofs.other_formats_lemmas.Cases.{of_infinity, of_number}
use Rattle.apfloat_arithmetic.proofs.other_formats.sums.add.Goals as goal

pub returns-in-Number-clause-sum : goal.returns-in-Number-clause-sum
returns-in-Number-clause-sum c = λ left right hx hy.
    let s = c.args.into in
    of_number (λ (e : Extended). IsSumOf (format_at s) c.args.round e right (datum_at s c.add_to_number.result.value)
    (bits_of c.add_to_number.result.status)) s c.in-Number.term left
    (subst (λ (o : Operand). StandsFor s left o) c.in-Number.is hx)
    (λ m k h. c.add_to_number.ensures.sum m k right h hy)

pub returns-in-Infinity-clause-sum : goal.returns-in-Infinity-clause-sum
returns-in-Infinity-clause-sum c = λ left right hx hy.
    let s = c.args.into in
    of_infinity (λ (e : Extended). IsSumOf (format_at s) c.args.round e right
    (datum_at s c.add_to_infinity.result.value) (bits_of c.add_to_infinity.result.status)) s c.in-Infinity.negative left
    (subst (λ (o : Operand). StandsFor s left o) c.in-Infinity.is hx)
    (c.add_to_infinity.ensures.sum c.args.round right hy)
