use Rattle.std.proofs.Common.{◌≡◌, ◌+◌, ◌*◌, ◌^◌, ◌≤◌, ℤ, pos, ap, ◌∙◌, subst, arith}
use Rattle.std.proofs.{Math.Nat.pow-le-pow_right, lemmas.Nat.pow_pos}
use Rattle.std.specs.Prelude.{◌*ℤ◌}
use Rattle.apfloat_model.specs.arithmetic.Exact.{magnitude, signed, IsRounded}
use Rattle.apfloat_model.specs.{arithmetic.Sums.zero_sum_sign, rounding.Flags.bits_of}
use Rattle.apfloat_model.proofs.{general.Powers.two_pos, rounding.OddRoundings.to_odd_least}
use Rattle.apfloat_rounding.specs.{Shapes.format_at, Stored.datum_at}
use Rattle.apfloat_arithmetic.proofs.other_formats_lemmas.{Exponents.in_target, ScaledTotals.signed_scaled}
use Rattle.apfloat_arithmetic.proofs.other_formats.results.deliver_total_in.Goals as goal

pub returns-clause-delivered : goal.returns-clause-delivered
returns-clause-delivered c = λ exact places t.
    let s = c.args.into in
    let total = c.args.total in
    let units = 2 ^ (format_at s).scale in
    let amount = magnitude exact * units in
    let of_zero = zero_sum_sign c.args.round c.args.left c.args.right in
    let few : s.precision + 1 ≤ 126 = let p = s.parameters.precision_high in omega (arith, p) in
    let least : 2 ^ (s.precision + 1) ≤ 2 ^ 126 = pow-le-pow_right two_pos few in
    let negative = total.negative in
    let scaled : signed negative amount ≡ (exact *ℤ pos units) =
    signed_scaled negative (magnitude exact) units ∙ ap (λ (z : ℤ). z *ℤ pos units) t.is in
    let d = c.deliver_total.ensures.delivered amount (2 ^ places) (pow_pos places)
    (to_odd_least (2 ^ 126) (2 ^ (s.precision + 1)) total.significand _ _ least
    (in_target (2 ^ 126) total.significand (magnitude exact) places (format_at s).scale total.exponent t.rounded)) in
    let v = datum_at s c.deliver_total.result.value in
    let i = bits_of c.deliver_total.result.status in
    subst (λ (z : ℤ). IsRounded (format_at s) c.args.round of_zero z (2 ^ places) v i) scaled d
