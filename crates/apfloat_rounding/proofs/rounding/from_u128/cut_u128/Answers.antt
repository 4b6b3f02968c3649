use Rattle.std.proofs.Common.{◌-◌, ◌*◌, ◌/◌, ◌%◌, ◌^◌, refl, sym, subst, arith, w32}
use Rattle.std.proofs.lemmas.Int.{ints, to_z-of_z}
use borrow.Author.Differences.{fits_in}
use Rattle.apfloat_model.specs.declared.loss.Loss.{Loss}
use Rattle.apfloat_model.specs.rounding.Standing.{StandsFor, up, down}
use Rattle.apfloat_rounding.proofs.OddCuts.{IsTopSplit, top_cut_fits, top_cut_full, top_cut_stands, top_cut_encloses}
use Rattle.apfloat_rounding.proofs.rounding.from_u128.cut_u128.Goals.{After-full_place}
use Rattle.apfloat_rounding.proofs.rounding.from_u128.cut_u128.Goals as goal

-- the facts that all clauses share
top_split : (c : After-full_place)
    → IsTopSplit 128 c.args.precision c.args.significand c.args.digits c.at_u128_top.result c.full_place.result
    (c.at_u128_top.result % 2 ^ (128 - c.args.precision)) (2 ^ (128 - c.args.precision - 1)) (up c.args.unit)
    (down c.args.unit)
top_split c =
    let e = to_z-of_z w32 c.args.unit (fits_in w32 c.args.unit (omega (arith, ints, c.requires.within))) in
    record {
      some = c.requires.some;
      short = let s = c.requires.short in omega (arith, s);
      word = c.requires.word;
      any = c.requires.any;
      fits = c.requires.fits;
      full = c.requires.full;
      top_is = c.at_u128_top.ensures;
      half_is = refl;
      rest_is = refl;
      place_is = rw e at c.full_place.ensures.reached;
    }

pub returns-clause-fits : goal.returns-clause-fits
returns-clause-fits c =
    rw c.split-pieces.ensures.kept
    (top_cut_fits 128 c.args.precision c.args.significand c.args.digits c.at_u128_top.result c.full_place.result _ _
    (up c.args.unit) (down c.args.unit) (top_split (goal.at.returns-clause-fits c).After-full_place))

pub returns-clause-full : goal.returns-clause-full
returns-clause-full c =
    rw c.split-pieces.ensures.kept
    (top_cut_full 128 c.args.precision c.args.significand c.args.digits c.at_u128_top.result c.full_place.result _ _
    (up c.args.unit) (down c.args.unit) (top_split (goal.at.returns-clause-full c).After-full_place))

pub returns-clause-cut : goal.returns-clause-cut
returns-clause-cut c = λ amount parts p h.
    let i = top_split (goal.at.returns-clause-cut c).After-full_place in
    rw c.split-pieces.ensures.kept (
      top_cut_encloses 128 c.args.precision c.args.significand c.args.digits c.at_u128_top.result c.full_place.result
          _ _ (up c.args.unit) (down c.args.unit) amount parts i p h,
      subst (λ (x : Loss). StandsFor (c.at_u128_top.result / 2 ^ (128 - c.args.precision)) x amount
          (2 ^ c.full_place.result * parts)) (sym c.split-pieces.ensures.rest)
          (top_cut_stands 128 c.args.precision c.args.significand c.args.digits c.at_u128_top.result
          c.full_place.result _ _ (up c.args.unit) (down c.args.unit) amount parts i p h),
    )
