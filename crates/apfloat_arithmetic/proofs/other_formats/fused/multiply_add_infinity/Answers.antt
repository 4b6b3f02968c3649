use Rattle.std.proofs.Common.{◌≡◌, ◌<◌}
use Rattle.apfloat_model.specs.rounding.{Flags.bits_of, Outcome.invalid}
use Rattle.apfloat_rounding.specs.{Shapes.format_at, Stored.datum_at}
use Rattle.apfloat_arithmetic.specs.other_formats.{Extended.infinity, FormatOf.sum_of}
use Rattle.apfloat_arithmetic.proofs.other_formats_lemmas.Cases.{some_yields, zero_yields}
use Rattle.apfloat_arithmetic.proofs.other_formats_lemmas.Exponents.{no_term, some_term}
use Rattle.apfloat_arithmetic.proofs.other_formats.fused.multiply_add_infinity.Goals as goal

pub returns-then-x-eq0-clause-sum : goal.returns-then-x-eq0-clause-sum
returns-then-x-eq0-clause-sum c = λ m s mode addend hx hz.
    let g = format_at c.args.into in
    let none : m ≡ 0 = no_term s m c.args.x c.if-x-eq0.true hx in
    zero_yields g mode m (invalid g) (sum_of g (infinity c.args.negative) addend)
    (datum_at c.args.into c.invalid.result.value) (bits_of c.invalid.result.status) none c.invalid.ensures.delivered

pub returns-else-x-eq0-clause-sum : goal.returns-else-x-eq0-clause-sum
returns-else-x-eq0-clause-sum c = λ m s mode addend hx hz.
    let some : 0 < m = some_term s m c.args.x c.if-x-eq0.false hx in
    let g = format_at c.args.into in
    some_yields g mode m (invalid g) (sum_of g (infinity c.args.negative) addend)
    (datum_at c.args.into c.add_to_infinity.result.value) (bits_of c.add_to_infinity.result.status) some
    (c.add_to_infinity.ensures.sum mode addend hz)
