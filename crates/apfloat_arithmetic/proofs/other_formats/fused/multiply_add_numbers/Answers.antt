use Rattle.std.proofs.Common.{◌+◌, ◌*◌, ◌^◌, ◌+ℤ◌, subst}
use Rattle.apfloat_model.specs.{arithmetic.Exact.product_sign, arithmetic.Exact.signed, rounding.Flags.bits_of}
use Rattle.apfloat_rounding.specs.{Shapes.format_at, Stored.datum_at}
use Rattle.apfloat_arithmetic.specs.{declared.other_formats.operands.Operand.Operand, other_formats.Extended.Extended}
use Rattle.apfloat_arithmetic.specs.other_formats.{Extended.number, Operands.StandsFor, FormatOf.IsFusedSumOf}
use Rattle.apfloat_arithmetic.proofs.other_formats_lemmas.Cases.{of_number}
use Rattle.apfloat_arithmetic.proofs.other_formats.fused.multiply_add_numbers.Goals as goal

pub returns-in-Number-clause-sum : goal.returns-in-Number-clause-sum
returns-in-Number-clause-sum c = λ l s m t addend hx hy hz.
    let into = c.args.into in
    let x = c.args.x in
    let y = c.args.y in
    let z = c.in-Number.addend in
    let result = c.deliver_total_in.result in
    let sum = rw c.product_sign.ensures at c.deliver_total_in.ensures.delivered in
    of_number (λ (e : Extended). IsFusedSumOf (format_at into) c.args.round (number x.negative l s)
    (number y.negative m t) e (datum_at into result.value) (bits_of result.status)) into z addend
    (subst (λ (o : Operand). StandsFor into addend o) c.in-Number.is hz)
    (λ n u h. sum
    (signed (product_sign x.negative y.negative) (l * m * 2 ^ u) +ℤ signed z.negative (n * 2 ^ (s + t))) (s + t + u)
    (c.fused_sum_of.ensures.total l m n s t u hx hy h))
