use Rattle.std.proofs.Common.{◌≡◌, ◌+◌, ◌*◌, ◌^◌, Bool, to_z, of_z, w32, subst, arith}
use Rattle.std.proofs.lemmas.Int.{ints}
use Rattle.std.specs.Prelude.{IfSome}
use Rattle.apfloat_model.specs.rounding.Standing.{up, down}
use Rattle.apfloat_ieee.specs.FlaggedTypes.{constants_of, format_of}
use Rattle.fast_bits.specs.{Encoded.IsEncodedNumber, Numbers.quanta_of}
use Rattle.fast_bits.proofs.OddNumbers.{IsLongQuotient, are_close, is_long, quotient_in_quanta}
use Rattle.fast_bits.proofs.{Operands.quanta_some, quotients.divide_numbers.Given.Over}
use Rattle.fast_bits.proofs.quotients.divide_numbers.Goals.{In-Some}
use Rattle.fast_bits.proofs.quotients.divide_numbers.Goals as goal

quotient : (g : Over) (c : In-Some g) → IsLongQuotient g.S.Flagged.PRECISION c.args.x.significand
    c.args.y.significand c.one_if_less-up.result c.in-Some.quotient
quotient g c =
    is_long g.S.Flagged.PRECISION c.args.x.significand c.args.y.significand c.one_if_less-up.result c.in-Some.quotient
    c.requires.word.precise
    (are_close (constants_of g.S.Flagged) c.args.x c.args.y c.one_if_less-up.result
    g.S.Flagged.lawful.parameters.precision_low c.requires.x c.requires.y c.one_if_less-up.ensures.less
    c.one_if_less-up.ensures.close)
    (rw c.precision_of-precision.ensures at c.in-Some.ensures)

pub encode_counted-requires-clause-fits : goal.encode_counted-requires-clause-fits
encode_counted-requires-clause-fits g c =
    rw c.precision_of-precision.ensures (quotient g (goal.at.encode_counted-requires-clause-fits g c).In-Some).fits

pub encode_counted-requires-clause-full : goal.encode_counted-requires-clause-full
encode_counted-requires-clause-full g c =
    rw c.precision_of-precision.ensures (quotient g (goal.at.encode_counted-requires-clause-full g c).In-Some).full

pub returns-in-Some : goal.returns-in-Some
returns-in-Some g c =
    let x = c.args.x in
    let y = c.args.y in
    let scale = (format_of g.S.Flagged).scale in
    let place = c.quotient_place-place.result in
    let at = c.quotient_place-place.ensures in
    let w : to_z w32 (of_z w32 place) ≡ place =
    omega (
      arith,
      ints,
      at,
      c.requires.x.near,
      c.requires.y.near,
      c.requires.word.precise,
      g.S.Flagged.lawful.parameters,
    ) in
    let d = rw w at c.encode_counted.ensures in
    let number = d (quanta_of x * 2 ^ scale) (quanta_of y) (quanta_some (constants_of g.S.Flagged) y c.requires.y)
    (quotient_in_quanta (2 ^ (g.S.Flagged.PRECISION + 1)) c.in-Some.quotient x.significand x.place y.significand
    y.place scale (g.S.Flagged.PRECISION + 1 + c.one_if_less-up.result) (up place) (down place)
    (omega (arith, ints, at))
    (quotient g (goal.at.returns-in-Some g c).In-Some).rounded) in
    subst
    (λ (b : Bool). IfSome c.encode_counted.result (IsEncodedNumber (constants_of g.S.Flagged) c.args.round b
    (quanta_of x * 2 ^ scale) (quanta_of y))) c.sign_of_product-negative.ensures number
