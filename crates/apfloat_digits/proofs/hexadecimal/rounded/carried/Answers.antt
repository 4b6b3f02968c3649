use Rattle.std.proofs.Common.{arith, w32, to_z, of_z, ◌≡◌, ◌+ℤ◌, pos}
use Rattle.std.proofs.lemmas.Int.{ints, to_z-of_z}
use Rattle.apfloat_digits.proofs.hexadecimal_lemmas.Numbers.{sixteens}
use Rattle.apfloat_model.proofs.arithmetic.Significands.{exponent_fits}
use Rattle.apfloat_digits.proofs.hexadecimal_lemmas.Roundings.{carried_not, carried_up, one_within}
use Rattle.apfloat_digits.proofs.hexadecimal.rounded.carried.Goals as goal

pub overflow_mul-one : goal.overflow_mul-one
overflow_mul-one c =
    let few = one_within c.args.places c.power_of_two-one.result c.requires.few c.power_of_two-one.ensures in
    record { fits = omega (arith, few) }

pub overflow_sub-result : goal.overflow_sub-result
overflow_sub-result c =
    let same = sixteens c.args.places in
    omega (arith, same, c.power_of_two-one.ensures, c.requires.least)

pub returns-then-units-one-clause-carried : goal.returns-then-units-one-clause-carried
returns-then-units-one-clause-carried c =
    let exact = to_z-of_z w32 c.args.exponent c.ranges.exponent in
    rw exact (carried_not c.args.places c.args.units c.power_of_two-one.result c.args.exponent
    c.power_of_two-one.ensures c.requires.least c.if-units-one.true)

pub returns-else-units-one-clause-carried : goal.returns-else-units-one-clause-carried
returns-else-units-one-clause-carried c =
    let exact = to_z-of_z w32 c.args.exponent c.ranges.exponent in
    let low = c.requires.within.low in
    let high = c.requires.within.high in
    let next : to_z w32 (of_z w32 (c.args.exponent +ℤ pos 1)) ≡ c.args.exponent +ℤ pos 1 =
    to_z-of_z w32 (c.args.exponent +ℤ pos 1)
    (exponent_fits (c.args.exponent +ℤ pos 1)
    (record { low = omega (arith, ints, low); high = omega (arith, ints, high) })) in
    rw (exact, next) (carried_up c.args.places c.args.units c.power_of_two-one.result c.args.exponent
    c.power_of_two-one.ensures c.if-units-one.false)
