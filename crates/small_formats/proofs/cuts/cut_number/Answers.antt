use Rattle.std.proofs.Common.{◌*◌, ◌^◌, ◌<◌, w32, arith}
use Rattle.std.proofs.{Math.Nat.mul-pos, lemmas.Int.to_z-of_z, lemmas.Nat.pow_pos}
use Rattle.apfloat_model.specs.rounding.Standing.{up, down}
use Rattle.apfloat_model.proofs.rounding.KeptDigits.{cut_fits, cut_full, cut_kept}
use Rattle.small_formats.proofs.cuts.cut_number.Goals as goal

pub returns-clause-fits : goal.returns-clause-fits
returns-clause-fits c =
    let e = to_z-of_z w32 c.args.unit c.ranges.unit in
    cut_fits c.args.precision c.args.number c.shift_right-shifted.result.significand c.args.count
    c.steps_up-places.result c.kept_place-place.result (up c.args.unit) (down c.args.unit) c.requires.high
    (rw e at c.kept_place-place.ensures.covers) (rw e at c.steps_up-places.ensures)
    c.shift_right-shifted.ensures.quotient

pub returns-clause-full : goal.returns-clause-full
returns-clause-full c =
    let e = to_z-of_z w32 c.args.unit c.ranges.unit in
    cut_full c.args.precision c.args.number c.shift_right-shifted.result.significand c.args.count
    c.steps_up-places.result c.kept_place-place.result (up c.args.unit) (down c.args.unit) c.requires.some
    (λ _. c.requires.low) (rw e at c.kept_place-place.ensures.reached) (rw e at c.steps_up-places.ensures)
    c.shift_right-shifted.ensures.quotient

pub returns-clause-places : goal.returns-clause-places
returns-clause-places c = let e = to_z-of_z w32 c.args.unit c.ranges.unit in rw e at c.steps_up-places.ensures

pub returns-clause-rest : goal.returns-clause-rest
returns-clause-rest c = λ h. c.shift_right-shifted.ensures.stands c.args.number 1 (omega arith) h

pub returns-clause-cut : goal.returns-clause-cut
returns-clause-cut c = λ amount parts u h.
    let e = to_z-of_z w32 c.args.unit c.ranges.unit in
    let v : 0 < parts * 2 ^ up c.args.unit = mul-pos u (pow_pos (up c.args.unit)) in
    cut_kept c.args.precision c.args.number c.shift_right-shifted.result.significand c.args.count
    c.steps_up-places.result c.kept_place-place.result (up c.args.unit) (down c.args.unit)
    c.shift_right-shifted.result.loss amount parts c.requires.some u c.requires.high (λ _. c.requires.low)
    (rw e at c.kept_place-place.ensures.covers) (rw e at c.kept_place-place.ensures.reached)
    (rw e at c.steps_up-places.ensures) c.shift_right-shifted.ensures.quotient
    (c.shift_right-shifted.ensures.stands (amount * 2 ^ down c.args.unit) (parts * 2 ^ up c.args.unit) v h)
