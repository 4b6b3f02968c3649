use Rattle.std.proofs.Common.{◌≡◌, ℕ, ◌*◌, ◌^◌, ◌<◌, ◌≤◌, ◌-◌, sym, subst, arith}
use Rattle.std.proofs.Math.Nat.{pow-le-pow_right}
use Rattle.apfloat_model.proofs.general.Powers.{two_pos, twice_half, product_full}
use Rattle.apfloat_arithmetic.proofs.WideTerms.{wide_fits}
use Rattle.apfloat_arithmetic.proofs.products.raised_product.Goals as goal

pub overflow_mul-result : goal.overflow_mul-result
overflow_mul-result c =
    let some = c.requires.some in
    let short = c.requires.short in
    let t : 2 * 2 ^ (2 * c.args.precision - 1) ≡ 2 ^ (2 * c.args.precision) =
    twice_half (2 * c.args.precision) (omega (arith, some)) in
    let m : 2 * c.args.precision ≤ 128 = omega (arith, short) in
    let l : 2 ^ (2 * c.args.precision) ≤ 2 ^ 128 = pow-le-pow_right two_pos m in
    record { fits = omega (arith, t, l, c.power_of_two.ensures, c.if-significand-power_of_two.true) }

pub returns-then-significand-power_of_two-clause-full : goal.returns-then-significand-power_of_two-clause-full
returns-then-significand-power_of_two-clause-full c =
    subst (λ (x : ℕ). 2 ^ (2 * c.args.precision - 1) ≤ 2 * x) (sym c.full_product-significand.ensures)
    (product_full c.args.precision c.args.left c.args.right c.requires.some c.requires.left_full c.requires.right_full)

pub returns-else-significand-power_of_two-clause-fits : goal.returns-else-significand-power_of_two-clause-fits
returns-else-significand-power_of_two-clause-fits c =
    let h = c.requires.right_fits in
    let l : c.args.right ≤ 2 ^ c.args.precision = omega arith in
    subst (λ (x : ℕ). x < 2 ^ (2 * c.args.precision)) (sym c.full_product-significand.ensures)
    (wide_fits c.args.precision c.args.left c.args.right c.requires.left_fits l)
