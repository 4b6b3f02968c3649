use Rattle.std.proofs.Common.{◌≤◌, ◌^◌, ◌*◌, arith}
use Rattle.apfloat_model.specs.rounding.Grid.{IsAbove}
use Rattle.tests.proofs.Multiples.{ceiling_is, above_bound}
use Rattle.tests.proofs.plain.above.Goals as goal

pub overflow_mul-result : goal.overflow_mul-result
overflow_mul-result c =
    let is : IsAbove c.args.precision (c.div_ceil.result * c.spacing_at-spacing.result) c.args.amount c.args.parts =
    rw c.div_ceil.ensures (ceiling_is c.args.precision c.args.amount c.args.parts c.spacing_at-spacing.result
    (omega arith) c.requires.some_parts c.spacing_at-spacing.ensures) in
    let l : c.div_ceil.result * c.spacing_at-spacing.result ≤ 2 ^ 126 =
    above_bound _ _ _ _ 126 (omega arith) c.requires.some_parts is (omega arith) in
    record { fits = omega arith }

pub returns : goal.returns
returns c =
    rw c.div_ceil.ensures (ceiling_is c.args.precision c.args.amount c.args.parts c.spacing_at-spacing.result
    (omega arith) c.requires.some_parts c.spacing_at-spacing.ensures)
