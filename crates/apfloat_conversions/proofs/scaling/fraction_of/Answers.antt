use Rattle.std.proofs.{Common.false, Common.◌≡◌, Common.eqb, Common.arith, Common.refl, lemmas.Bool.ne_eqb}
use Rattle.apfloat_rounding.specs.Stored.{quanta_at}
use Rattle.apfloat_rounding.proofs.StoredBack.{quanta_some}
use Rattle.apfloat_conversions.proofs.scaling.fraction_of.Goals as goal

pub returns-in-Normal-clause-fraction : goal.returns-in-Normal-clause-fraction
returns-in-Normal-clause-fraction c =
    let s = c.args.shape in
    let n = rw c.in-Normal.is at c.requires in
    let z : eqb (quanta_at s.min_exp c.args.x.significand c.args.x.exponent) 0 ≡ false =
    ne_eqb _ 0 (λ q. omega (arith, quanta_some s c.args.x.significand c.args.x.exponent n, q)) in
    rw (c.in-Normal.is, z) c.number_fraction.ensures.fraction

pub returns-in-Infinity-clause-fraction : goal.returns-in-Infinity-clause-fraction
returns-in-Infinity-clause-fraction c = rw c.in-Infinity.is (refl, refl)
