use Rattle.std.proofs.Common.{◌≡◌, ◌+◌, ◌-◌, ◌*◌, ◌^◌, ◌<◌, ◌≤◌, Bool, pos, neg_ℤ, ◌-ℤ◌, w32, to_z, of_z, subst, inr}
use Rattle.std.proofs.{Common.arith, Math.Nat.pow-le-pow_right, Math.Nat.mul-pos}
use Rattle.std.proofs.lemmas.{Int.to_z-of_z, Int.ints, Nat.pow_pos}
use Rattle.apfloat_model.specs.rounding.{Flags.bits_of, Rounding.IsDelivered}
use Rattle.apfloat_model.proofs.{general.Powers.two_pos, arithmetic.Fractions.quotient_full}
use Rattle.apfloat_rounding.specs.{Shapes.format_at, Stored.datum_at}
use Rattle.apfloat_arithmetic.proofs.other_formats_lemmas.Cases.{all_digits}
use Rattle.apfloat_arithmetic.proofs.other_formats_lemmas.Exponents.{some_amount, quotient_amount}
use Rattle.apfloat_arithmetic.proofs.other_formats.quotients.divide_nonzero.Goals as goal

pub deliver-requires-clause-fine : goal.deliver-requires-clause-fine
deliver-requires-clause-fine c =
    let x = c.args.x in
    let y = c.args.y in
    let p = c.args.into.parameters.precision_high in
    let few : c.args.into.precision - 1 ≤ 124 = omega (arith, p) in
    let a : 2 ^ (c.args.into.precision - 1) ≤ 2 ^ 124 = pow-le-pow_right two_pos few in
    let q : 2 ^ 124 ≤ c.divide_u128-quotient.result.whole =
    quotient_full c.divide_u128-quotient.result.whole x.significand y.significand 125 126 c.requires.y_some
    (all_digits x.significand c.requires.x.full c.requires.x_some) c.requires.y.fits (omega arith) (omega arith)
    c.divide_u128-quotient.ensures.quotient in
    inr (inr (omega (arith, a, q)))

pub returns-clause-quotient : goal.returns-clause-quotient
returns-clause-quotient c = λ m s n t hx hy.
    let g = format_at c.args.into in
    let x = c.args.x in
    let y = c.args.y in
    let e = c.far_lowered.result in
    let v : e ≡ (x.exponent -ℤ y.exponent) -ℤ pos 126 =
    omega (arith, ints, c.requires.x.within, c.requires.y.within, c.far_lowered.ensures.value) in
    let w : to_z w32 (of_z w32 e) ≡ e = to_z-of_z w32 e (record { sfits = c.far_lowered.type_inv }) in
    let some : 0 < n = some_amount (neg_ℤ (pos t)) y.exponent y.significand n c.requires.y_some hy in
    let d = rw w at c.deliver.ensures.delivered in
    subst (λ (b : Bool). IsDelivered g c.args.round b (m * 2 ^ (t + g.scale)) (n * 2 ^ s)
    (datum_at c.args.into c.deliver.result.value) (bits_of c.deliver.result.status)) c.product_sign.ensures
    (d (m * 2 ^ (t + g.scale)) (n * 2 ^ s) (mul-pos some (pow_pos s))
    (quotient_amount 126 s t g.scale x.exponent y.exponent e c.divide_u128-quotient.result.whole
    c.divide_u128-quotient.result.loss x.significand y.significand m n hx hy v c.divide_u128-quotient.ensures.stands))
