use Rattle.std.proofs.Common.{ℕ, ◌-◌, ◌*◌, ◌^◌, w32, subst, ap, ◌∙◌, arith}
use Rattle.std.proofs.lemmas.{Int.to_z-of_z, Int.ints, Nat.pow_pos}
use Rattle.apfloat_model.specs.{formats.Datum.Datum, formats.Members.IsMember, rounding.Flags.bits_of}
use Rattle.apfloat_model.proofs.arithmetic.SingleScalings.{converted_is}
use Rattle.apfloat_rounding.specs.{Shapes.format_at, Stored.quanta_at, Stored.datum_at}
use Rattle.apfloat_rounding.proofs.{StoredBack.quanta_some, ShapeExponents.exponent_word, ShapeExponents.scale_is}
use Rattle.apfloat_rounding.proofs.StoredMembers.{member_is}
use Rattle.apfloat_conversions.proofs.HeldNumbers.{same_converted}
use Rattle.apfloat_conversions.proofs.between_formats.converted_number.Goals as goal

pub last_exponent-requires : goal.last_exponent-requires
last_exponent-requires c =
    record {
      low = omega (arith, ints, c.args.from.parameters, c.requires.operand);
      high = omega (arith, ints, c.args.from.parameters, c.requires.operand);
    }

pub deliver_counted_u128-answer-requires-clause-within : goal.deliver_counted_u128-answer-requires-clause-within
deliver_counted_u128-answer-requires-clause-within c =
    record {
      low = omega (arith, ints, c.last_exponent.ensures.within);
      high = omega (arith, ints, c.last_exponent.ensures.within);
    }

pub deliver_counted_u128-answer-requires-clause-fits : goal.deliver_counted_u128-answer-requires-clause-fits
deliver_counted_u128-answer-requires-clause-fits c = rw c.significand_of.ensures c.requires.operand.fits

pub deliver_counted_u128-answer-requires-clause-full : goal.deliver_counted_u128-answer-requires-clause-full
deliver_counted_u128-answer-requires-clause-full c = rw c.significand_of.ensures c.requires.operand.full

pub returns-clause-stored : goal.returns-clause-stored
returns-clause-stored c = c.deliver_counted_u128-answer.ensures.stored

pub returns-clause-converted : goal.returns-clause-converted
returns-clause-converted c =
    let s = c.args.from in
    let t = c.args.into in
    let v = rw (exponent_word s c.args.x.significand c.args.x.exponent c.requires) at c.last_exponent.ensures.value in
    let w = to_z-of_z w32 c.last_exponent.result (record { sfits = c.last_exponent.type_inv }) in
    let g = rw (w, c.significand_of.ensures) at c.deliver_counted_u128-answer.ensures.delivered in
    let k = scale_is s in
    let a : ℕ = quanta_at s.min_exp c.args.x.significand c.args.x.exponent in
    record {
      is_delivered = g (a * 2 ^ (format_at t).scale) (2 ^ (format_at s).scale) (pow_pos (format_at s).scale)
          (converted_is (s.precision - 1) (format_at s).scale (t.precision - 1) (format_at t).scale s.min_exp
          t.min_exp c.args.x.exponent c.last_exponent.result c.args.x.significand a k (scale_is t) v c.requires.whole);
      loses_is = c.ne.ensures;
    }

pub returns-then-has-clause-converted : goal.returns-then-has-clause-converted
returns-then-has-clause-converted c =
    let s = c.args.from in
    let t = c.args.into in
    let m = subst (λ (d : Datum). IsMember (format_at t) d) c.widened.ensures.datum
    (member_is t c.widened.result c.widened.ensures.stored) in
    same_converted (format_at s) (format_at t) c.args.round c.args.x.negative
    (quanta_at s.min_exp c.args.x.significand c.args.x.exponent) _ _ _
    (quanta_some s c.args.x.significand c.args.x.exponent c.requires) c.widened.ensures.same
    (ap (datum_at t) c.and.ensures.value ∙ c.widened.ensures.datum) m (ap bits_of c.and.ensures.status)
