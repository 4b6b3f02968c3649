use Rattle.std.proofs.Common.{◌≡◌, ◌*◌, ◌^◌, ◌∙◌, arith, to_z, of_z, w32}
use Rattle.std.proofs.lemmas.{Int.ints, Int.to_z-of_z, Nat.pow_pos}
use Rattle.apfloat_model.specs.rounding.Standing.{up}
use Rattle.apfloat_rounding.specs.{Shapes.format_at, Stored.quanta_at}
use Rattle.apfloat_rounding.proofs.ShapeExponents.{exponent_word}
use Rattle.apfloat_conversions.proofs.{StoredExponents.whole_places, Wholes.whole_toward_zero, Wholes.whole_multiple}
use Rattle.apfloat_conversions.proofs.integral.is_whole_number.Goals as goal

pub last_exponent-exponent-requires : goal.last_exponent-exponent-requires
last_exponent-exponent-requires c =
    record {
      low = omega (arith, ints, c.args.shape.parameters, c.requires.operand);
      high = omega (arith, ints, c.args.shape.parameters, c.requires.operand);
    }

pub returns-then-exponent-ge0 : goal.returns-then-exponent-ge0
returns-then-exponent-ge0 c =
    let s = c.args.shape in
    let m = c.args.x.significand in
    let x = c.args.x.exponent in
    let r = c.last_exponent-exponent.result in
    let w : to_z w32 (of_z w32 c.last_exponent-exponent.result) ≡ c.last_exponent-exponent.result =
    to_z-of_z w32 c.last_exponent-exponent.result (record { sfits = c.last_exponent-exponent.type_inv }) in
    let g = c.if-exponent-ge0.true in
    let e = whole_places s m x r c.requires c.last_exponent-exponent.ensures.value (omega (arith, ints, g, w)) in
    whole_multiple (m * 2 ^ up r) (quanta_at s.min_exp m x) (2 ^ (format_at s).scale) e

pub round_at_dot-requires-clause-last : goal.round_at_dot-requires-clause-last
round_at_dot-requires-clause-last c =
    let e = exponent_word c.args.shape c.args.x.significand c.args.x.exponent c.requires in
    rw (to_z-of_z w32 c.last_exponent-exponent.result (record { sfits = c.last_exponent-exponent.type_inv }))
    (rw e at c.last_exponent-exponent.ensures.value)

pub returns : goal.returns
returns c =
    let s = c.args.shape in
    let a = quanta_at s.min_exp c.args.x.significand c.args.x.exponent in
    let i = c.round_at_dot.ensures.picked in
    i.exact_is ∙ whole_toward_zero c.args.x.negative a (2 ^ (format_at s).scale) (pow_pos (format_at s).scale)
