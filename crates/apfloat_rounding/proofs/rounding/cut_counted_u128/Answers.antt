use Rattle.std.proofs.Common.{◌-◌, ◌%◌, ◌^◌, refl, arith, w32}
use Rattle.std.proofs.lemmas.Int.{ints, to_z-of_z}
use borrow.Author.Differences.{fits_in}
use Rattle.apfloat_model.specs.rounding.Standing.{up, down}
use Rattle.apfloat_rounding.proofs.CutRests.{IsSplitRest, split_fits, split_full, cut_off}
use Rattle.apfloat_rounding.proofs.rounding.cut_counted_u128.Goals as goal

pub returns-clause-fits : goal.returns-clause-fits
returns-clause-fits c =
    rw c.split-pieces.ensures.kept
    (split_fits c.args.precision c.args.significand c.args.digits c.requires.long c.requires.fits)

pub returns-clause-full : goal.returns-clause-full
returns-clause-full c =
    rw c.split-pieces.ensures.kept
    (split_full c.args.precision c.args.significand c.args.digits c.requires.some c.requires.long c.requires.full)

pub returns-clause-cut : goal.returns-clause-cut
returns-clause-cut c = λ amount parts p h.
    let precision = c.args.precision in
    let s = c.args.significand in
    let unit = c.args.unit in
    let place = c.full_place.result in
    let places = c.args.digits - c.args.precision in
    let e = to_z-of_z w32 unit (fits_in w32 unit (omega (arith, ints, c.requires.within))) in
    let i : IsSplitRest precision s c.args.digits place (s % 2 ^ places) (2 ^ (places - 1)) (up unit) (down unit) =
    record {
      some = c.requires.some;
      long = c.requires.long;
      fits = c.requires.fits;
      full = c.requires.full;
      half_is = refl;
      rest_is = refl;
      place_is = rw e at c.full_place.ensures.reached;
    } in
    cut_off precision s c.args.digits place (s % 2 ^ places) (2 ^ (places - 1)) (up unit) (down unit) amount parts
    c.split-pieces.result.kept c.split-pieces.result.rest c.split-pieces.result.half i c.split-pieces.ensures.kept
    c.split-pieces.ensures.rest p h
