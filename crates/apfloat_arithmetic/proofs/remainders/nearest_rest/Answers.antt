use Rattle.std.proofs.Common.{ℕ, cond, ◌-◌, ◌%◌, ◌^◌}
use Rattle.std.proofs.lemmas.Nat.{pow_pos}
use Rattle.apfloat_rounding.specs.Stored.{quanta_of}
use Rattle.apfloat_arithmetic.proofs.NearestMultiples.{past_in, distance_in}
use Rattle.apfloat_arithmetic.proofs.remainders.nearest_rest.Goals as goal

pub returns-clause-past : goal.returns-clause-past
returns-clause-past c =
    let low : ℕ = c.args.shape.precision - 1 in
    past_in _ _ _ (quanta_of c.args.shape c.args.x) (quanta_of c.args.shape c.args.y) (2 ^ low) (pow_pos low)
    c.magnitude_of-number.ensures.units c.magnitude_of-divisor.ensures.units c.nearest_by-nearest.ensures.past

pub returns-clause-quanta : goal.returns-clause-quanta
returns-clause-quanta c =
    let low : ℕ = c.args.shape.precision - 1 in
    let a : ℕ = quanta_of c.args.shape c.args.x in
    let b : ℕ = quanta_of c.args.shape c.args.y in
    let past = c.nearest_by-nearest.result.past in
    c.in_quanta.ensures.same (cond past (b - a % b) (a % b))
    (distance_in past _ _ a b (2 ^ low) _ (pow_pos low) c.magnitude_of-number.ensures.units
    c.magnitude_of-divisor.ensures.units c.nearest_by-nearest.ensures.distance)
