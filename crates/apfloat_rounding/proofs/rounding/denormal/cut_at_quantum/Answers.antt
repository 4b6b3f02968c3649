use Rattle.std.proofs.{Common.◌≡◌, Common.refl, Common.arith, Common.w32, lemmas.Int.ints, lemmas.Int.to_z-of_z}
use Rattle.apfloat_model.specs.rounding.Standing.{up, down}
use Rattle.apfloat_model.proofs.arithmetic.Signs.{no_up}
use Rattle.apfloat_rounding.proofs.QuantumCuts.{IsQuantumCut, quantum_fits, quantum_stands}
use Rattle.apfloat_rounding.proofs.QuantumCuts.{quantum_encloses, quantum_finely}
use Rattle.apfloat_rounding.proofs.rounding.denormal.cut_at_quantum.Goals.{After-word_power}
use borrow.Author.Differences.{fits_in}
use Rattle.apfloat_rounding.proofs.rounding.denormal.cut_at_quantum.Goals as goal

-- the facts that both clauses share
cut : (c : After-word_power)
    → IsQuantumCut c.args.precision c.args.word.significand c.args.word.digits (down c.args.word.unit)
    c.places_below-places.result c.word_power.result
cut c =
    let unit = c.args.word.unit in
    let e = to_z-of_z w32 unit (fits_in w32 unit (omega (arith, ints, c.requires.within))) in
    record {
      some = c.requires.some;
      short = c.requires.short;
      fits = c.requires.fits;
      below = omega (arith, ints, c.requires.fine, c.requires.below);
      near = rw e at c.places_below-places.ensures.near;
      far = rw e at c.places_below-places.ensures.far;
      bound = c.places_below-places.ensures.bound;
      cuts = c.places_below-places.ensures.some;
      half_is = c.word_power.ensures;
    }

pub returns-clause-fits : goal.returns-clause-fits
returns-clause-fits c =
    rw c.from.ensures
    (quantum_fits c.args.precision c.args.word.significand c.args.word.digits (down c.args.word.unit)
    c.places_below-places.result c.word_power.result (cut c))

pub returns-clause-cut : goal.returns-clause-cut
returns-clause-cut c = λ amount parts p h.
    let unit = c.args.word.unit in
    let s = c.args.word.significand in
    let u : up c.args.word.unit ≡ 0 = no_up c.args.word.unit (omega (arith, ints, c.requires.fine)) in
    rw c.from.ensures (
      (
        quantum_encloses c.args.precision s c.args.word.digits (down unit) c.places_below-places.result
            c.word_power.result (up unit) (down unit) amount parts (cut c) p u refl h,
        quantum_stands c.args.precision s c.args.word.digits (down unit) c.places_below-places.result
            c.word_power.result (up unit) (down unit) amount parts (cut c) p u refl h,
      ),
      λ e m. quantum_finely c.args.precision s c.args.word.digits (down unit) c.places_below-places.result
          c.word_power.result (up unit) (down unit) amount parts (cut c) p u refl h m,
    )
