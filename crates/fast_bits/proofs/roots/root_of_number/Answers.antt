use Rattle.std.proofs.Common.{◌+◌, ◌-◌, arith}
use Rattle.std.proofs.lemmas.Int.{ints}
use Rattle.apfloat_ieee.specs.FlaggedTypes.{constants_of}
use Rattle.apfloat_rounding.specs.Cuts.{loss_at}
use Rattle.fast_bits.proofs.RootAnswers.{root_encoded}
use Rattle.fast_bits.proofs.roots.root_of_number.Goals as goal

pub returns-in-Some : goal.returns-in-Some
returns-in-Some g c =
    let there = c.in-Some.ensures in
    let balance = c.halved_place-halved.ensures.balance in
    let some = g.S.Flagged.lawful.parameters.precision_low in
    let root = c.root_digits-root.result in
    let digits = rw c.precision_of-precision.ensures at c.root_digits-root.ensures in
    root_encoded (constants_of g.S.Flagged) c.args.round c.args.x.significand c.args.x.place
    (g.S.Flagged.PRECISION - 1 + c.halved_place-halved.result.odd) c.in-Some.place root.kept (loss_at root.rest 2)
    c.encode_cut.result (omega (arith, some)) digits.full digits.fits (omega (arith, ints, there.0, balance))
    digits.stands c.encode_cut.ensures
