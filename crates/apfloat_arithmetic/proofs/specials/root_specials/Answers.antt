use Rattle.std.proofs.Common.{subst}
use Rattle.apfloat_model.specs.declared.kinds.Category.{Category, TheVariants.Normal}
use Rattle.apfloat_rounding.specs.{Shapes.format_at, Stored.IsStoredBy, Stored.IsNormalAt, Stored.quanta_at}
use Rattle.apfloat_rounding.proofs.StoredBack.{quanta_some}
use Rattle.apfloat_arithmetic.proofs.{SumCases.datum_is, RootCases.negative_root}
use Rattle.apfloat_arithmetic.proofs.specials.root_specials.Goals as goal

pub returns-in-Normal-clause-delivered : goal.returns-in-Normal-clause-delivered
returns-in-Normal-clause-delivered c = λ mode.
    let s = c.args.shape in
    let x = c.args.x in
    let n : IsNormalAt s x.significand x.exponent =
    subst (λ (k : Category). IsStoredBy k s x) c.in-Normal.is c.requires.stored in
    rw (datum_is Normal s x c.in-Normal.is)
    (negative_root (format_at s) mode x.negative (quanta_at s.min_exp x.significand x.exponent) _ _
    (quanta_some s x.significand x.exponent n) (c.requires.special c.in-Normal.is) c.invalid.ensures.delivered)
