use Rattle.std.proofs.Common.{◌≡◌, ◌^◌, arith, lit<, to_z, of_z, w32}
use Rattle.std.proofs.lemmas.Int.{to_z-of_z, ints}
use Rattle.apfloat_model.specs.{arithmetic.Exact.up, arithmetic.Exact.down, rounding.Flags.bits_of}
use Rattle.apfloat_ieee.specs.FlaggedTypes.{format_of}
use Rattle.apfloat_decimals.proofs.cuts.Readings.{none_stand, fine_digits, decimal_delivered}
use Rattle.apfloat_decimals.proofs.numbers.Values.{power_pos}
use Rattle.apfloat_decimals.proofs.decimal.from_decimal.Goals as goal

pub returns-then-decimal-eq0 : goal.returns-then-decimal-eq0
returns-then-decimal-eq0 g c =
    c.deliver.ensures _ (10 ^ down c.args.decimal.exponent) (power_pos 10 (down c.args.decimal.exponent) (lit< tt))
    (none_stand c.args.decimal.digits (10 ^ up c.args.decimal.exponent) _ _ _ c.if-decimal-eq0.true)

pub deliver-requires-2-clause-fine : goal.deliver-requires-2-clause-fine
deliver-requires-2-clause-fine g c =
    let full = rw c.PRECISION.ensures at c.scaled-ratio.ensures.full in
    fine_digits g.S.Flagged.PRECISION c.scaled-ratio.result.significand _ c.scaled-ratio.result.loss full

pub returns : goal.returns
returns g c =
    let exact : to_z w32 (of_z w32 c.args.decimal.exponent) ≡ c.args.decimal.exponent = omega (arith, ints) in
    let near = to_z-of_z w32 c.nearest.result (record { sfits = c.nearest.type_inv }) in
    let within = c.scaled-ratio.ensures.within in
    let ratio : to_z w32 (of_z w32 c.scaled-ratio.result.exponent) ≡ c.scaled-ratio.result.exponent =
    omega (arith, ints) in
    let nearest = rw exact at c.nearest.ensures.nearest in
    let stands = rw near at c.scaled-ratio.ensures.stands in
    let delivered = rw ratio at c.deliver-2.ensures in
    let law = g.S.Flagged.lawful.parameters.precision_low in
    decimal_delivered (format_of g.S.Flagged) c.args.round c.args.decimal.negative c.args.decimal.digits
    c.args.decimal.exponent c.nearest.result c.scaled-ratio.result.significand c.scaled-ratio.result.exponent
    c.scaled-ratio.result.loss c.deliver-2.result.value (bits_of c.deliver-2.result.status) c.requires (omega arith)
    g.S.Flagged.lawful.parameters.precision_high (omega (arith, c.if-decimal-eq0.false)) (omega arith)
    nearest stands delivered
