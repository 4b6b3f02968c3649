use Rattle.std.proofs.Common.{◌+◌, ◌*◌, ◌^◌, ◌+ℤ◌, subst}
use Rattle.apfloat_model.specs.{arithmetic.Exact.signed, rounding.Flags.bits_of}
use Rattle.apfloat_rounding.specs.{Shapes.format_at, Stored.datum_at}
use Rattle.apfloat_arithmetic.specs.{declared.other_formats.operands.Operand.Operand, other_formats.Extended.Extended}
use Rattle.apfloat_arithmetic.specs.other_formats.{Extended.number, Operands.StandsFor, FormatOf.IsSumOf}
use Rattle.apfloat_arithmetic.proofs.other_formats_lemmas.Cases.{of_number}
use Rattle.apfloat_arithmetic.proofs.other_formats.sums.add_to_number.Goals as goal

pub returns-in-Number-clause-sum : goal.returns-in-Number-clause-sum
returns-in-Number-clause-sum c = λ m s right hx hy.
    let into = c.args.into in
    let x = c.args.x in
    let y = c.in-Number.other in
    let result = c.deliver_total_in.result in
    of_number (λ (e : Extended). IsSumOf (format_at into) c.args.round (number x.negative m s) e
    (datum_at into result.value) (bits_of result.status)) into y right
    (subst (λ (o : Operand). StandsFor into right o) c.in-Number.is hy)
    (λ n t h. c.deliver_total_in.ensures.delivered (signed x.negative (m * 2 ^ t) +ℤ signed y.negative (n * 2 ^ s))
    (s + t) (c.sum_of.ensures.total m n s t hx h))
