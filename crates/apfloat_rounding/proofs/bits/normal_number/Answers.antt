use Rattle.std.proofs.Common.{◌+◌, ◌-◌, ◌*◌, ◌^◌, ◌<◌, ◌≤◌, arith}
use Rattle.std.proofs.{lemmas.Nat.pow_pos, lemmas.Bool.ne_eqb, Math.Nat.mul-pos, Math.Nat.pow-le-pow_right}
use Rattle.apfloat_model.specs.formats.Format.{smallest_normalized}
use Rattle.apfloat_model.proofs.{general.Powers.two_pos, general.Powers.twice_half, rounding.Deliveries.signed_some}
use Rattle.apfloat_rounding.specs.Shapes.{format_at}
use Rattle.apfloat_rounding.proofs.bits.normal_number.Goals as goal

pub from_full_quanta-requires-clause-fits : goal.from_full_quanta-requires-clause-fits
from_full_quanta-requires-clause-fits c =
    let t = twice_half c.args.shape.precision (omega (arith, c.args.shape.parameters.precision_low)) in
    omega (arith, t, c.requires.trailing, c.integer_bit.ensures)

pub from_full_quanta-requires-clause-full : goal.from_full_quanta-requires-clause-full
from_full_quanta-requires-clause-full c = rw c.integer_bit.ensures (omega arith)

pub returns-clause-stored : goal.returns-clause-stored
returns-clause-stored c = c.from_full_quanta.ensures.stored

pub overflow_add-integer_bit : goal.overflow_add-integer_bit
overflow_add-integer_bit c =
    let p : c.args.shape.precision - 1 ≤ 124 = omega (arith, c.args.shape.parameters.precision_high) in
    record { fits = omega (arith, pow-le-pow_right two_pos p, c.integer_bit.ensures, c.requires.trailing) }

pub returns-clause-datum : goal.returns-clause-datum
returns-clause-datum c =
    let f = format_at c.args.shape in
    let i = c.requires.implies in
    let e = ne_eqb c.args.fields.biased_exponent 0 (λ z. omega (arith, i, z)) in
    let s : 0 < smallest_normalized f = pow_pos (c.args.shape.precision - 1) in
    let p : 0 < (smallest_normalized f + c.args.fields.trailing) * 2 ^ (c.args.fields.biased_exponent - 1) =
    mul-pos (omega arith) (pow_pos (c.args.fields.biased_exponent - 1)) in
    rw (e, c.from_full_quanta.ensures.datum, c.integer_bit.ensures)
    (signed_some c.args.shape.nonfinite c.args.fields.negative _ p)
