use Rattle.std.proofs.Common.{◌+◌, ◌*◌, ◌^◌, Bool, ℕ, ℤ, pos, sym, subst}
use Rattle.std.proofs.Math.Path.{subst₂}
use Rattle.std.specs.Prelude.{◌*ℤ◌}
use Rattle.apfloat_model.specs.arithmetic.{Exact.product_sign, Exact.signed, Exact.IsRounded, Sums.zero_sum_sign}
use Rattle.apfloat_model.specs.rounding.{Flags.bits_of, Rounding.IsDelivered}
use Rattle.apfloat_model.proofs.arithmetic.Signs.{magnitude_signed}
use Rattle.apfloat_rounding.specs.{Shapes.format_at, Stored.datum_at}
use Rattle.apfloat_arithmetic.proofs.other_formats_lemmas.{OddTotals.sign_of_product, ScaledTotals.signed_scaled}
use Rattle.apfloat_arithmetic.proofs.other_formats.products.multiply_numbers.Goals as goal

pub returns-clause-product : goal.returns-clause-product
returns-clause-product c = λ m s n t hx hy.
    let g = format_at c.args.into in
    let sign = product_sign c.args.x.negative c.args.y.negative in
    let v = datum_at c.args.into c.deliver_total_in.result.value in
    let i = bits_of c.deliver_total_in.result.status in
    let exact = signed sign (m * n) in
    let units = 2 ^ g.scale in
    let d = subst (λ (b : Bool). IsRounded g c.args.round (zero_sum_sign c.args.round b b) (exact *ℤ pos units)
    (2 ^ (s + t)) v i) c.product_of-total.ensures.negative
    (c.deliver_total_in.ensures.delivered exact (s + t) (c.product_of-total.ensures.total m n s t hx hy)) in
    let e = subst (λ (z : ℤ). IsRounded g c.args.round (zero_sum_sign c.args.round sign sign) z (2 ^ (s + t)) v i)
    (sym (signed_scaled sign (m * n) units)) d in
    subst₂ (λ (b : Bool) (k : ℕ). IsDelivered g c.args.round b k (2 ^ (s + t)) v i)
    (sign_of_product c.args.round sign (m * n * units)) (magnitude_signed sign (m * n * units)) e
