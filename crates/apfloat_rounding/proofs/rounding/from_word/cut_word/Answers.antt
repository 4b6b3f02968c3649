use Rattle.std.proofs.{Common.◌-◌, Common.arith, Common.w32, lemmas.Int.ints, lemmas.Int.to_z-of_z}
use borrow.Author.Differences.{fits_in}
use Rattle.apfloat_model.specs.rounding.Standing.{up, down}
use Rattle.apfloat_rounding.proofs.CutRests.{rest_below}
use Rattle.apfloat_rounding.proofs.OddCuts.{IsTopSplit, top_cut_fits, top_cut_full, top_cut_stands, top_cut_encloses}
use Rattle.apfloat_rounding.proofs.rounding.from_word.cut_word.Goals.{After-word_power}
use Rattle.apfloat_rounding.proofs.rounding.from_word.cut_word.Goals as goal

-- the facts that all clauses share
split : (c : After-word_power)
    → IsTopSplit 64 c.args.precision c.args.significand c.args.digits c.at_word_top-top.result c.full_place.result
    c.low_of_word.result c.word_power.result (up c.args.unit) (down c.args.unit)
split c =
    let e = to_z-of_z w32 c.args.unit (fits_in w32 c.args.unit (omega (arith, ints, c.requires.within))) in
    record {
      some = c.requires.some;
      short = let s = c.requires.short in omega (arith, s);
      word = c.requires.word;
      any = c.requires.any;
      fits = c.requires.fits;
      full = c.requires.full;
      top_is = c.at_word_top-top.ensures;
      half_is = c.word_power.ensures;
      rest_is = c.low_of_word.ensures;
      place_is = rw e at c.full_place.ensures.reached;
    }

pub returns-clause-fits : goal.returns-clause-fits
returns-clause-fits c =
    rw c.from.ensures
    (top_cut_fits 64 c.args.precision c.args.significand c.args.digits c.at_word_top-top.result c.full_place.result
    c.low_of_word.result c.word_power.result (up c.args.unit) (down c.args.unit)
    (split (goal.at.returns-clause-fits c).After-word_power))

pub returns-clause-full : goal.returns-clause-full
returns-clause-full c =
    rw c.from.ensures
    (top_cut_full 64 c.args.precision c.args.significand c.args.digits c.at_word_top-top.result c.full_place.result
    c.low_of_word.result c.word_power.result (up c.args.unit) (down c.args.unit)
    (split (goal.at.returns-clause-full c).After-word_power))

pub returns-clause-rest : goal.returns-clause-rest
returns-clause-rest c =
    rest_below c.at_word_top-top.result (64 - c.args.precision) c.word_power.result c.low_of_word.result
    (omega (arith, c.requires.short)) c.word_power.ensures c.low_of_word.ensures

pub returns-clause-cut : goal.returns-clause-cut
returns-clause-cut c = λ amount parts p h.
    let i = split (goal.at.returns-clause-cut c).After-word_power in
    rw c.from.ensures (
      top_cut_encloses 64 c.args.precision c.args.significand c.args.digits c.at_word_top-top.result c.full_place.result
          c.low_of_word.result c.word_power.result (up c.args.unit) (down c.args.unit) amount parts i p h,
      top_cut_stands 64 c.args.precision c.args.significand c.args.digits c.at_word_top-top.result c.full_place.result
          c.low_of_word.result c.word_power.result (up c.args.unit) (down c.args.unit) amount parts i p h,
    )
