use Rattle.std.proofs.Common.{ℕ, ◌*◌, ◌^◌, ◌<◌, ◌≤◌, ◌-◌, sym, subst}
use Rattle.apfloat_model.proofs.general.Powers.{product_full}
use Rattle.fast_bits.proofs.Operands.{product_fits}
use Rattle.fast_bits.proofs.products.raised_product.Goals as goal

pub returns-then-significand-power_of_two-clause-full : goal.returns-then-significand-power_of_two-clause-full
returns-then-significand-power_of_two-clause-full c =
    subst (λ (x : ℕ). 2 ^ (2 * c.args.precision - 1) ≤ 2 * x) (sym c.full_product-significand.ensures)
    (product_full c.args.precision c.args.left c.args.right c.requires.some c.requires.left_full
    c.requires.right_full)

pub returns-else-significand-power_of_two-clause-fits : goal.returns-else-significand-power_of_two-clause-fits
returns-else-significand-power_of_two-clause-fits c =
    subst (λ (x : ℕ). x < 2 ^ (2 * c.args.precision)) (sym c.full_product-significand.ensures)
    (product_fits c.args.precision c.args.left c.args.right c.requires.left_fits c.requires.right_fits)
