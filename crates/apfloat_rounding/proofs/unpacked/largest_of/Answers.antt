use Rattle.std.proofs.Common.{◌<◌, ◌-◌, ◌^◌, refl, arith}
use Rattle.std.proofs.{lemmas.Nat.pow_pos, Math.Nat.mul-pos}
use Rattle.apfloat_model.proofs.rounding.Deliveries.{signed_some}
use Rattle.apfloat_rounding.proofs.unpacked.largest_of.Goals as goal

pub returns-clause-datum : goal.returns-clause-datum
returns-clause-datum c =
    let p : 0 < 2 ^ (c.args.shape.precision - 1) = pow_pos (c.args.shape.precision - 1) in
    let g : 0 < c.greatest_significand.result = omega (arith, p, c.greatest_significand.ensures.full) in
    rw (
      c.from_full_quanta.ensures.datum,
      signed_some c.args.shape.nonfinite c.args.negative _ (mul-pos g (pow_pos c.span.result)),
      c.greatest_significand.ensures.value,
      c.span.ensures.value,
    ) refl
