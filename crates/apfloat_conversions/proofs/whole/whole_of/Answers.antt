use Rattle.std.proofs.Common.{◌≡◌, ◌-◌, ◌*◌, ◌^◌, sym, ◌∙◌, arith, w32, to_z, of_z}
use Rattle.std.proofs.lemmas.{Int.ints, Int.to_z-of_z, Nat.pow_pos}
use Rattle.apfloat_rounding.specs.{Shapes.format_at, Stored.quanta_at}
use Rattle.apfloat_rounding.proofs.ShapeExponents.{exponent_word, scale_is}
use Rattle.apfloat_conversions.proofs.Wholes.{too_large, places_up, whole_exactly, exactly_so}
use Rattle.apfloat_conversions.proofs.whole.whole_of.Goals as goal

pub last_exponent-exponent-requires : goal.last_exponent-exponent-requires
last_exponent-exponent-requires c =
    record {
      low = omega (arith, ints, c.args.shape.parameters, c.requires.operand);
      high = omega (arith, ints, c.args.shape.parameters, c.requires.operand);
    }

pub steps_between-requires-clause-above : goal.steps_between-requires-clause-above
steps_between-requires-clause-above c = omega (arith, ints)

pub steps_between-requires-clause-high : goal.steps_between-requires-clause-high
steps_between-requires-clause-high c =
    record {
      low = omega (arith, ints, c.last_exponent-exponent.ensures.within);
      high = omega (arith, ints, c.last_exponent-exponent.ensures.within);
    }

pub steps_between-requires-clause-low : goal.steps_between-requires-clause-low
steps_between-requires-clause-low c =
    record { low = omega (arith, ints); high = omega (arith, ints) }

pub integer_of-requires-clause-some : goal.integer_of-requires-clause-some
integer_of-requires-clause-some c = omega (arith, c.args.shape.parameters.precision_low)

pub integer_of-requires-clause-fits : goal.integer_of-requires-clause-fits
integer_of-requires-clause-fits c = c.requires.operand.fits

pub integer_of-requires-clause-near : goal.integer_of-requires-clause-near
integer_of-requires-clause-near c =
    omega (
      arith,
      ints,
      c.args.shape.parameters.precision_low,
      c.last_exponent-exponent.ensures.value,
      c.steps_between.ensures,
    )

pub returns-then-x-ge128 : goal.returns-then-x-ge128
returns-then-x-ge128 c =
    let s = c.args.shape in
    let p = c.args.shape.parameters.precision_high in
    let n = c.requires in
    too_large c.args.round c.args.x.negative (s.precision - 1) (format_at s).scale s.min_exp c.args.x.exponent
    c.args.x.significand (quanta_at s.min_exp c.args.x.significand c.args.x.exponent)
    (omega (arith, p)) (scale_is s) n.operand.full (omega (arith, ints, c.if-x-ge128.true)) n.whole

pub returns-then-exponent-ge0 : goal.returns-then-exponent-ge0
returns-then-exponent-ge0 c =
    let s = c.args.shape in
    let a = quanta_at s.min_exp c.args.x.significand c.args.x.exponent in
    let ex = exponent_word s c.args.x.significand c.args.x.exponent c.requires in
    let v = rw ex at c.last_exponent-exponent.ensures.value in
    let w : to_z w32 (of_z w32 c.last_exponent-exponent.result) ≡ c.last_exponent-exponent.result =
    to_z-of_z w32 c.last_exponent-exponent.result (record { sfits = c.last_exponent-exponent.type_inv }) in
    let k = rw w at c.steps_between.ensures in
    let e = places_up (s.precision - 1) (format_at s).scale s.min_exp c.args.x.exponent
    c.last_exponent-exponent.result c.args.x.significand a c.steps_between.result (scale_is s) v k c.requires.whole in
    let p = pow_pos (format_at s).scale in
    record {
      magnitude_is = c.integer_of.ensures ∙
          sym (whole_exactly c.args.round c.args.x.negative (c.args.x.significand * 2 ^ c.steps_between.result) a
          (2 ^ (format_at s).scale) p e);
      exact_is =
          exactly_so c.args.round c.args.x.negative (c.args.x.significand * 2 ^ c.steps_between.result) a
          (2 ^ (format_at s).scale) p e;
    }

pub round_at_dot-requires-clause-last : goal.round_at_dot-requires-clause-last
round_at_dot-requires-clause-last c =
    let e = exponent_word c.args.shape c.args.x.significand c.args.x.exponent c.requires in
    rw (to_z-of_z w32 c.last_exponent-exponent.result (record { sfits = c.last_exponent-exponent.type_inv }))
    (rw e at c.last_exponent-exponent.ensures.value)

pub round_at_dot-requires-clause-small : goal.round_at_dot-requires-clause-small
round_at_dot-requires-clause-small c = let g = c.if-exponent-ge0.false in omega (arith, ints, g)

pub returns : goal.returns
returns c = c.round_at_dot.ensures.picked
