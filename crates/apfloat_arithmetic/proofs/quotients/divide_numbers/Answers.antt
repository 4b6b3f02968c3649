use Rattle.std.proofs.Common.{◌≡◌, ◌+◌, ◌-◌, ◌*◌, ◌^◌, ◌≤◌, Bool, w32, to_z, of_z, subst}
use Rattle.std.proofs.{Common.arith, Common.inr, Math.Nat.pow-le-pow_right, lemmas.Int.to_z-of_z, lemmas.Int.ints}
use Rattle.apfloat_model.specs.rounding.{Flags.bits_of, Rounding.IsDelivered}
use Rattle.apfloat_model.proofs.{general.Powers.two_pos, general.Powers.twice_half, arithmetic.Fractions.quotient_full}
use Rattle.apfloat_rounding.specs.{Shapes.format_at, Stored.quanta_at, Stored.datum_at}
use Rattle.apfloat_rounding.proofs.StoredBack.{quanta_some}
use Rattle.apfloat_arithmetic.proofs.ProductExponents.{normal_near, normal_some, quotient_is}
use Rattle.apfloat_arithmetic.proofs.quotients.divide_numbers.Goals as goal

pub overflow_add-places : goal.overflow_add-places
overflow_add-places c = omega (arith, c.args.shape.parameters.precision_high)

pub divide_u128-quotient-requires-clause-some : goal.divide_u128-quotient-requires-clause-some
divide_u128-quotient-requires-clause-some c =
    normal_some c.args.shape c.args.y.significand c.args.y.exponent c.requires.right

pub divide_u128-quotient-requires-clause-narrow : goal.divide_u128-quotient-requires-clause-narrow
divide_u128-quotient-requires-clause-narrow c =
    let a : 2 ^ c.args.shape.precision ≤ 2 ^ 125 = pow-le-pow_right two_pos c.args.shape.parameters.precision_high in
    let f = c.requires.right.operand.fits in
    omega (arith, a, f)

pub divide_u128-quotient-requires-clause-close : goal.divide_u128-quotient-requires-clause-close
divide_u128-quotient-requires-clause-close c =
    let l = c.args.shape.parameters.precision_low in
    let t : 2 * 2 ^ (c.args.shape.precision - 1) ≡ 2 ^ c.args.shape.precision =
    twice_half c.args.shape.precision (omega (arith, l)) in
    let f = c.requires.left.operand.fits in
    let g = c.requires.right.operand.full in
    omega (arith, t, f, g)

pub quotient_exponent-requires-clause-left : goal.quotient_exponent-requires-clause-left
quotient_exponent-requires-clause-left c =
    record {
      low = omega (arith, ints, c.args.shape.parameters, c.requires.left.operand);
      high = omega (arith, ints, c.args.shape.parameters, c.requires.left.operand);
    }

pub quotient_exponent-requires-clause-right : goal.quotient_exponent-requires-clause-right
quotient_exponent-requires-clause-right c =
    record {
      low = omega (arith, ints, c.args.shape.parameters, c.requires.right.operand);
      high = omega (arith, ints, c.args.shape.parameters, c.requires.right.operand);
    }

pub quotient_exponent-requires-clause-short : goal.quotient_exponent-requires-clause-short
quotient_exponent-requires-clause-short c = omega (arith, c.args.shape.parameters.precision_high)

pub deliver-requires-clause-within : goal.deliver-requires-clause-within
deliver-requires-clause-within c =
    record {
      low = omega (arith, ints, c.quotient_exponent.ensures.within);
      high = omega (arith, ints, c.quotient_exponent.ensures.within);
    }

pub deliver-requires-clause-fine : goal.deliver-requires-clause-fine
deliver-requires-clause-fine c =
    let s = c.args.shape in
    let t = c.args.shape.parameters.precision_low in
    inr (inr (quotient_full c.divide_u128-quotient.result.whole c.args.x.significand c.args.y.significand
    s.precision (s.precision + 1)
    (normal_some s c.args.y.significand c.args.y.exponent c.requires.right) c.requires.left.operand.full
    c.requires.right.operand.fits (omega arith) (omega arith) c.divide_u128-quotient.ensures.quotient))

pub returns-clause-stored : goal.returns-clause-stored
returns-clause-stored c = c.deliver.ensures.stored

pub returns-clause-delivered : goal.returns-clause-delivered
returns-clause-delivered c =
    let s = c.args.shape in
    let x = normal_near s c.args.x.significand c.args.x.exponent c.requires.left in
    let y = normal_near s c.args.y.significand c.args.y.exponent c.requires.right in
    let v = rw (x.word, y.word) at c.quotient_exponent.ensures.value in
    let w : to_z w32 (of_z w32 c.quotient_exponent.result) ≡ c.quotient_exponent.result =
    to_z-of_z w32 c.quotient_exponent.result (record { sfits = c.quotient_exponent.type_inv }) in
    let g = rw w at c.deliver.ensures.delivered in
    let d = g (quanta_at s.min_exp c.args.x.significand c.args.x.exponent * 2 ^ (format_at s).scale)
    (quanta_at s.min_exp c.args.y.significand c.args.y.exponent)
    (quanta_some s c.args.y.significand c.args.y.exponent c.requires.right)
    (quotient_is s c.args.x.exponent c.args.y.exponent c.quotient_exponent.result (s.precision + 1)
    c.divide_u128-quotient.result.whole c.divide_u128-quotient.result.loss c.args.x.significand
    c.args.y.significand c.requires.left c.requires.right v c.divide_u128-quotient.ensures.stands) in
    subst (λ (b : Bool). IsDelivered (format_at s) c.args.round b
    (quanta_at s.min_exp c.args.x.significand c.args.x.exponent * 2 ^ (format_at s).scale)
    (quanta_at s.min_exp c.args.y.significand c.args.y.exponent) (datum_at s c.deliver.result.value)
    (bits_of c.deliver.result.status)) c.product_sign.ensures d
