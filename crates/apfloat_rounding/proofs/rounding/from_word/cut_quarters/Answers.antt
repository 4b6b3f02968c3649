use Rattle.std.proofs.{Common.arith, Common.w32, lemmas.Int.to_z-of_z}
use Rattle.apfloat_model.specs.rounding.Standing.{up, down}
use Rattle.apfloat_rounding.proofs.QuantumCuts.{quarters_fit, quarters_full, quarters_cut}
use Rattle.apfloat_rounding.proofs.rounding.from_word.cut_quarters.Goals as goal

pub returns-clause-fits : goal.returns-clause-fits
returns-clause-fits c = rw c.from.ensures (quarters_fit c.args.precision c.args.significand c.requires.fits)

pub returns-clause-full : goal.returns-clause-full
returns-clause-full c =
    rw c.from.ensures (quarters_full c.args.precision c.args.significand c.requires.some c.requires.full)

pub returns-clause-cut : goal.returns-clause-cut
returns-clause-cut c = λ amount parts p h.
    let unit = c.args.unit in
    let r = rw (to_z-of_z w32 unit c.ranges.unit) at c.full_place.ensures.reached in
    rw c.from.ensures
    (quarters_cut c.args.precision c.args.significand (up unit) (down unit) c.full_place.result amount parts
    c.requires.some c.requires.fits c.requires.full (omega (arith, r)) p h)
