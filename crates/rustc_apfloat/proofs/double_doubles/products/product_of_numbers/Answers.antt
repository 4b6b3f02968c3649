use Rattle.std.proofs.Common.{false, true, ℕ, ap, ◌∙◌, subst}
use Rattle.std.proofs.Math.Path.{subst₂}
use Rattle.apfloat_model.specs.{formats.Datum.Datum, order.Classes.is_finite_non_zero, rounding.Flags.bits_of}
use Rattle.apfloat_model.specs.{rounding.Steps.ends, rounding.Steps.Leads, arithmetic.Products.IsProduct}
use Rattle.apfloat_pair_theory.specs.{PairFormats.double, Pairs.Pair, Pairs.alone}
use Rattle.apfloat_pair_theory.specs.PairSums.{◌∪◌, closing}
use Rattle.apfloat_pair_theory.specs.PairProducts.{lost_of_product, number_product}
use Rattle.apfloat_pair_theory.proofs.sums.SumsSound.{at_test, step, continued_leads}
use Rattle.rustc_apfloat.proofs.double_doubles_lemmas.PairSteps.{number_is}
use Rattle.rustc_apfloat.proofs.double_doubles.products.product_of_numbers.Goals as goal

pub returns-then-not-is_finite_non_zero : goal.returns-then-not-is_finite_non_zero
returns-then-not-is_finite_non_zero c =
    let t = c.mul_r.result.value in
    let flags = bits_of c.mul_r.result.status in
    step t flags
    (subst₂ (λ (a : Datum) (b : Datum). IsProduct double c.args.round a b t flags)
    (ap (λ (p : Pair). p.high) c.x.view_is) (ap (λ (p : Pair). p.high) c.y.view_is) c.mul_r.ensures.product)
    (at_test c.args.round false (is_finite_non_zero t) (number_product c.args.x c.args.y t flags)
    (ends (alone t) flags) _ _ (number_is t _ _ c.is_finite_non_zero.ensures c.if-not-is_finite_non_zero.true)
    (c.and.ensures.value ∙ c.alone.ensures, ap bits_of c.and.ensures.status))

pub returns : goal.returns
returns c =
    let t = c.mul_r.result.value in
    let flags = bits_of c.mul_r.result.status in
    let tau = c.lost.result.value in
    let answer = c.closed.result.value in
    let status = bits_of c.closed.result.status in
    step t flags
    (subst₂ (λ (a : Datum) (b : Datum). IsProduct double c.args.round a b t flags)
    (ap (λ (p : Pair). p.high) c.x.view_is) (ap (λ (p : Pair). p.high) c.y.view_is) c.mul_r.ensures.product)
    (at_test c.args.round true (is_finite_non_zero t) (number_product c.args.x c.args.y t flags) (ends (alone t) flags)
    answer status (number_is t _ _ c.is_finite_non_zero.ensures c.if-not-is_finite_non_zero.false)
    (continued_leads double c.args.round
    (lost_of_product c.args.x.high c.args.x.low c.args.y.high c.args.y.low t) (λ w s. closing t w (flags ∪ s))
    tau (bits_of c.lost.result.status) answer status c.lost.ensures
    (subst (λ (i : ℕ). Leads double c.args.round (closing t tau i) answer status)
    (c.unpack-union-status.ensures tt) c.closed.ensures)))
