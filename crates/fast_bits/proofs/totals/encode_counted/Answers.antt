use Rattle.std.proofs.Common.{◌-◌, ◌/◌, ◌^◌, ◌<◌, ◌≤◌, arith, w32}
use Rattle.std.proofs.lemmas.Int.{ints, to_z-of_z}
use Rattle.apfloat_model.specs.rounding.Standing.{up, down}
use Rattle.fast_bits.proofs.{Operands.total_full, Operands.total_kept, totals.encode_counted.Given.Over}
use borrow.Author.Differences.{fits_in}
use Rattle.fast_bits.proofs.totals.encode_counted.Goals as goal

kept_full : (g : Over) (c : goal.In-Some g)
    → (2 ^ (g.S.Flagged.PRECISION - 1) ≤ c.at_top-top.result / c.power_of-last.result)
    × (c.at_top-top.result / c.power_of-last.result < 2 ^ g.S.Flagged.PRECISION)
kept_full g c =
    total_full g.S.Flagged.PRECISION c.args.significand c.args.digits c.at_top-top.result
    c.power_of-last.result g.S.Flagged.lawful.parameters.precision_low c.requires.word.precise
    c.requires.short c.requires.any
    c.requires.fits c.requires.full c.at_top-top.ensures
    (rw c.precision_of-precision.ensures at c.power_of-last.ensures.value)

pub encode_cut-requires-clause-full : goal.encode_cut-requires-clause-full
encode_cut-requires-clause-full g c = (kept_full g c).0

pub encode_cut-requires-clause-fits : goal.encode_cut-requires-clause-fits
encode_cut-requires-clause-fits g c = (kept_full g c).1

pub returns-in-Some : goal.returns-in-Some
returns-in-Some g c = λ amount parts some rounded.
    let there = c.in-Some.ensures in
    let unit = to_z-of_z w32 c.args.unit (fits_in w32 c.args.unit (omega (arith, ints, c.requires.within))) in
    let kept = total_kept g.S.Flagged.PRECISION c.args.significand c.args.digits c.at_top-top.result
    c.in-Some.place c.power_of-last.result c.power_of-half.result (up c.args.unit) (down c.args.unit) amount parts
    g.S.Flagged.lawful.parameters.precision_low c.requires.word.precise
    c.requires.short c.requires.any
    c.requires.fits c.requires.full c.at_top-top.ensures
    (rw c.precision_of-precision.ensures at c.power_of-last.ensures.value)
    (rw c.precision_of-precision.ensures at c.power_of-half.ensures.value)
    (omega (arith, ints, there.0, c.kept_place-from.ensures, c.precision_of-precision.ensures, unit)) some rounded in
    c.encode_cut.ensures amount parts some kept.enclosed kept.stands
