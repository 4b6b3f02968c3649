use Rattle.std.proofs.Common.{arith, w32}
use Rattle.std.proofs.lemmas.Int.{to_z-of_z}
use Rattle.apfloat_decimals.proofs.{numbers.Values.zeros, spelled.Lines.magnitude_length, spelled.Lines.sign_length}
use Rattle.apfloat_decimals.proofs.formatting.put_text.Goals as goal

pub put_sign-at-requires-clause-zeros : goal.put_sign-at-requires-clause-zeros
put_sign-at-requires-clause-zeros c = λ i h. zeros 64 i

pub put_magnitude-requires-clause-room : goal.put_magnitude-requires-clause-room
put_magnitude-requires-clause-room c =
    let exact = to_z-of_z w32 c.args.exponent c.ranges.exponent in
    let sign = sign_length c.args.negative in
    let magnitude = magnitude_length c.args.digits c.args.exponent c.ranges.digits.fits c.ranges.exponent in
    let moved = c.put_sign-at.ensures.moved in
    rw exact (omega (arith, sign, magnitude, moved))

pub returns-clause-room : goal.returns-clause-room
returns-clause-room c =
    let exact = to_z-of_z w32 c.args.exponent c.ranges.exponent in
    let sign = sign_length c.args.negative in
    let magnitude = magnitude_length c.args.digits c.args.exponent c.ranges.digits.fits c.ranges.exponent in
    let first = c.put_sign-at.ensures.moved in
    let moved = rw exact at c.put_magnitude.ensures.moved in
    omega (arith, sign, magnitude, first, moved)
