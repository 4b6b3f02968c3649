use Rattle.std.proofs.Common.{ℕ, ◌*◌, ◌^◌, ◌≤◌, ◌-◌, sym, subst, arith}
use Rattle.apfloat_arithmetic.proofs.WideTerms.{wide_fits, addend_full}
use Rattle.apfloat_arithmetic.proofs.fused.raised_addend.Goals as goal

pub returns-clause-fits : goal.returns-clause-fits
returns-clause-fits c =
    let e = c.power_of_two.ensures in
    let l : c.power_of_two.result ≤ 2 ^ c.args.precision = omega (arith, e) in
    wide_fits c.args.precision c.args.significand c.power_of_two.result c.requires.fits l

pub returns-clause-full : goal.returns-clause-full
returns-clause-full c =
    subst (λ (x : ℕ). 2 ^ (2 * c.args.precision - 1) ≤ c.args.significand * x) (sym c.power_of_two.ensures)
    (addend_full c.args.precision c.args.significand c.requires.some c.requires.full)
