use Rattle.std.proofs.Common.{◌≡◌, ◌<◌}
use Rattle.apfloat_model.specs.rounding.Flags.{bits_of}
use Rattle.apfloat_rounding.specs.{Shapes.format_at, Stored.datum_at}
use Rattle.apfloat_arithmetic.proofs.other_formats_lemmas.Cases.{zero_root, positive_root}
use Rattle.apfloat_arithmetic.proofs.other_formats_lemmas.Exponents.{no_term, some_term}
use Rattle.apfloat_arithmetic.proofs.other_formats.roots.root_of_number.Goals as goal

pub returns-then-x-eq0-clause-root : goal.returns-then-x-eq0-clause-root
returns-then-x-eq0-clause-root c = λ m s h.
    let a : m ≡ 0 = no_term s m c.args.x c.if-x-eq0.true h in
    zero_root (format_at c.args.into) c.args.round c.args.x.negative m s
    (datum_at c.args.into c.exact_zero.result.value) (bits_of c.exact_zero.result.status) a c.exact_zero.ensures.answer

pub returns-clause-root : goal.returns-clause-root
returns-clause-root c = λ m s h.
    let some : 0 < m = some_term s m c.args.x c.if-x-eq0.false h in
    positive_root (format_at c.args.into) c.args.round c.args.x.negative m s
    (datum_at c.args.into c.root_of_nonzero.result.value) (bits_of c.root_of_nonzero.result.status) some c.if-x.false
    (c.root_of_nonzero.ensures.root m s h)
