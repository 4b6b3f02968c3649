use Rattle.std.proofs.Common.{◌≡◌, ◌-◌, ◌*◌, ◌^◌, ◌≤◌, sym, subst, arith, ℕ, to_z}
use Rattle.std.proofs.{Common.of_z, Common.w32, lemmas.Int.ints, lemmas.Int.to_z-of_z, lemmas.Nat.pow_pos}
use Rattle.apfloat_model.specs.{formats.Format.largest, rounding.Standing.up}
use Rattle.apfloat_model.proofs.general.Powers.{twice_half}
use Rattle.apfloat_rounding.specs.{Shapes.format_at, Stored.quanta_at, Stored.datum_at}
use Rattle.apfloat_rounding.proofs.{StoredBack.quanta_some, ShapeExponents.exponent_word}
use Rattle.apfloat_conversions.proofs.StoredExponents.{whole_places, scale_in_span, half_within}
use Rattle.apfloat_conversions.proofs.Wholes.{integral_picked, integral_stays}
use Rattle.apfloat_conversions.proofs.integral.round_number.Goals as goal

pub last_exponent-exponent-requires : goal.last_exponent-exponent-requires
last_exponent-exponent-requires c =
    record {
      low = omega (arith, ints, c.args.shape.parameters, c.requires.normal.operand);
      high = omega (arith, ints, c.args.shape.parameters, c.requires.normal.operand);
    }

pub returns-then-exponent-ge0-clause-stored : goal.returns-then-exponent-ge0-clause-stored
returns-then-exponent-ge0-clause-stored c = rw (c.and.ensures.value, c.requires.number) c.requires.normal

pub from_quanta-requires-clause-near : goal.from_quanta-requires-clause-near
from_quanta-requires-clause-near c = omega (arith, ints, c.scale.ensures.value, c.args.shape.parameters)

pub returns-clause-stored : goal.returns-clause-stored
returns-clause-stored c = rw c.and-2.ensures.value c.from_quanta.ensures.stored

pub returns-then-exponent-ge0-clause-delivered : goal.returns-then-exponent-ge0-clause-delivered
returns-then-exponent-ge0-clause-delivered c =
    let s = c.args.shape in
    let m = c.args.x.significand in
    let x = c.args.x.exponent in
    let n = c.requires.normal in
    let a = quanta_at s.min_exp m x in
    let r = c.last_exponent-exponent.result in
    let w : to_z w32 (of_z w32 c.last_exponent-exponent.result) ≡ c.last_exponent-exponent.result =
    to_z-of_z w32 c.last_exponent-exponent.result (record { sfits = c.last_exponent-exponent.type_inv }) in
    let g = c.if-exponent-ge0.true in
    let e = whole_places s m x r n c.last_exponent-exponent.ensures.value (omega (arith, ints, g, w)) in
    rw (c.and.ensures.value, c.and.ensures.status, c.requires.number)
    (integral_stays (format_at s) c.args.round c.args.x.negative a (m * 2 ^ up r) (quanta_some s m x n) e)

pub round_at_dot-whole-requires-clause-normal : goal.round_at_dot-whole-requires-clause-normal
round_at_dot-whole-requires-clause-normal c = c.requires.normal

pub round_at_dot-whole-requires-clause-last : goal.round_at_dot-whole-requires-clause-last
round_at_dot-whole-requires-clause-last c =
    let e = exponent_word c.args.shape c.args.x.significand c.args.x.exponent c.requires.normal in
    rw (to_z-of_z w32 c.last_exponent-exponent.result (record { sfits = c.last_exponent-exponent.type_inv }))
    (rw e at c.last_exponent-exponent.ensures.value)

pub round_at_dot-whole-requires-clause-small : goal.round_at_dot-whole-requires-clause-small
round_at_dot-whole-requires-clause-small c = let g = c.if-exponent-ge0.false in omega (arith, ints, g)

pub from_quanta-requires-clause-fits : goal.from_quanta-requires-clause-fits
from_quanta-requires-clause-fits c =
    let s = c.args.shape in
    let three = c.args.shape.parameters.precision_low in
    let t : 2 * 2 ^ (s.precision - 1) ≡ 2 ^ s.precision = twice_half s.precision (omega (arith, three)) in
    omega (arith, c.round_at_dot-whole.ensures.bound, t, pow_pos (s.precision - 1))

pub from_quanta-requires-clause-within : goal.from_quanta-requires-clause-within
from_quanta-requires-clause-within c =
    let s = c.args.shape in
    let h = c.round_at_dot-whole.ensures.bound in
    subst (λ (k : ℕ). c.round_at_dot-whole.result.magnitude * 2 ^ k ≤ largest (format_at s)) (sym c.scale.ensures.value)
    (half_within s c.round_at_dot-whole.result.magnitude (format_at s).scale h (omega (arith, scale_in_span s)))

pub returns-clause-delivered : goal.returns-clause-delivered
returns-clause-delivered c =
    let s = c.args.shape in
    let a = quanta_at s.min_exp c.args.x.significand c.args.x.exponent in
    let i = c.round_at_dot-whole.ensures.picked in
    let d = rw c.scale.ensures.value at c.from_quanta.ensures.datum in
    rw (c.and-2.ensures.value, c.and-2.ensures.status, c.requires.number)
    (integral_picked (format_at s) c.args.round c.args.x.negative a c.round_at_dot-whole.result.magnitude
    c.round_at_dot-whole.result.exact (datum_at s c.from_quanta.result) _ i.magnitude_is i.exact_is d
    c.status_of.ensures)
