use Rattle.std.proofs.Common.{subst}
use Rattle.apfloat_model.specs.declared.kinds.Category.{Category, TheVariants.Normal}
use Rattle.apfloat_rounding.specs.{Shapes.format_at, Stored.IsStoredBy, Stored.IsNormalAt, Stored.quanta_at}
use Rattle.apfloat_rounding.proofs.StoredBack.{quanta_some}
use Rattle.apfloat_arithmetic.proofs.{SumCases.datum_is, RootCases.positive_root}
use Rattle.apfloat_arithmetic.proofs.roots.square_root.Goals as goal

pub returns-then-is_positive_number-clause-delivered : goal.returns-then-is_positive_number-clause-delivered
returns-then-is_positive_number-clause-delivered c =
    let s = c.args.shape in
    let x = c.args.x in
    let both = c.is_positive_number.ensures.yes c.if-is_positive_number.true in
    let n : IsNormalAt s x.significand x.exponent = subst (λ (k : Category). IsStoredBy k s x) both.0 c.requires in
    rw (datum_is Normal s x both.0)
    (positive_root (format_at s) c.args.round x.negative (quanta_at s.min_exp x.significand x.exponent) _ _
    (quanta_some s x.significand x.exponent n) both.1 c.root_of_number.ensures.delivered)
