use Rattle.std.proofs.Common.{◌^◌, ◌≤◌, arith, w32}
use Rattle.std.proofs.lemmas.{Int.ints, Int.to_z-of_z, Nat.pow_pos}
use Rattle.apfloat_rounding.specs.{Shapes.format_at, Stored.quanta_at}
use Rattle.apfloat_rounding.proofs.ShapeExponents.{exponent_word}
use Rattle.apfloat_conversions.proofs.{StoredExponents.fraction_places, Wholes.whole_fits}
use Rattle.apfloat_conversions.proofs.whole.round_at_dot.Goals as goal

pub round_fraction-requires : goal.round_fraction-requires
round_fraction-requires c =
    let k = rw (to_z-of_z w32 c.args.exponent c.ranges.exponent) at c.steps_between.ensures in
    record {
      precise = c.args.shape.parameters.precision_high;
      fits = c.requires.normal.operand.fits;
      some = omega (arith, ints, c.requires.small, k);
    }

pub returns-clause-bound : goal.returns-clause-bound
returns-clause-bound c =
    let three = c.args.shape.parameters.precision_low in
    let k = rw (to_z-of_z w32 c.args.exponent c.ranges.exponent) at c.steps_between.ensures in
    let l : 1 ≤ c.steps_between.result = omega (arith, ints, c.requires.small, k) in
    whole_fits c.args.shape.precision c.args.x.significand c.steps_between.result c.round_fraction.result.magnitude
    (omega (arith, three)) c.requires.normal.operand.fits l c.round_fraction.ensures.bound

pub returns-clause-picked : goal.returns-clause-picked
returns-clause-picked c =
    let s = c.args.shape in
    let m = c.args.x.significand in
    let x = c.args.x.exponent in
    let n = c.requires.normal in
    let k = rw (to_z-of_z w32 c.args.exponent c.ranges.exponent) at c.steps_between.ensures in
    c.round_fraction.ensures.picked (quanta_at s.min_exp m x) (2 ^ (format_at s).scale) (pow_pos (format_at s).scale)
    (fraction_places s m c.steps_between.result x c.args.exponent n (rw (exponent_word s m x n) c.requires.last) k)

pub steps_between-requires-clause-above : goal.steps_between-requires-clause-above
steps_between-requires-clause-above c = omega (arith, ints, c.args.shape.parameters, c.requires)

pub steps_between-requires-clause-high : goal.steps_between-requires-clause-high
steps_between-requires-clause-high c = record { low = omega (arith, ints); high = omega (arith, ints) }

pub steps_between-requires-clause-low : goal.steps_between-requires-clause-low
steps_between-requires-clause-low c =
    record {
      low = omega (arith, ints, c.args.shape.parameters, c.requires.normal.operand, c.requires.last);
      high = omega (arith, ints, c.args.shape.parameters, c.requires.normal.operand, c.requires.last);
    }
