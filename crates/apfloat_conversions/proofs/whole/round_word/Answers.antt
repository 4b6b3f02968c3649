use Rattle.std.proofs.Common.{◌≡◌, ◌-◌, ◌*◌, ◌^◌, ◌∙◌, arith}
use Rattle.std.proofs.{Math.Nat.mod-eq_of_lt, lemmas.Int.ints, lemmas.Nat.pow_pos}
use Rattle.apfloat_rounding.specs.{Shapes.format_at, Stored.quanta_at}
use Rattle.apfloat_rounding.proofs.ShapeExponents.{exponent_word}
use Rattle.apfloat_conversions.proofs.StoredExponents.{top_fits, word_places}
use Rattle.apfloat_conversions.proofs.whole.round_word.Goals.{After-from}
use Rattle.apfloat_conversions.proofs.whole.round_word.Goals as goal

-- the significand, shifted up
top : (c : After-from) → c.from.result ≡ c.args.x.significand * 2 ^ (62 - c.args.shape.precision)
top c =
    let f = top_fits c.args.shape.precision c.args.x.significand c.requires.short c.requires.normal.operand.fits in
    c.from.ensures ∙ mod-eq_of_lt (omega (arith, f))

pub round_fraction-requires-clause-fits : goal.round_fraction-requires-clause-fits
round_fraction-requires-clause-fits c =
    rw (top c) (top_fits c.args.shape.precision c.args.x.significand c.requires.short c.requires.normal.operand.fits)

pub returns : goal.returns
returns c =
    let s = c.args.shape in
    let m = c.args.x.significand in
    let e = c.args.x.exponent in
    let n = c.requires.normal in
    let k = rw (exponent_word s m e n) at c.steps_between-places.ensures in
    c.round_fraction.ensures.picked (quanta_at s.min_exp m e) (2 ^ (format_at s).scale) (pow_pos (format_at s).scale)
    (rw (top (goal.at.returns c).After-from) (word_places s m c.steps_between-places.result e n c.requires.short k))

pub steps_between-places-requires-clause-above : goal.steps_between-places-requires-clause-above
steps_between-places-requires-clause-above c =
    omega (arith, ints, c.args.shape.parameters, c.requires.normal.operand, c.requires.small)

pub steps_between-places-requires-clause-high : goal.steps_between-places-requires-clause-high
steps_between-places-requires-clause-high c = record { low = omega (arith, ints); high = omega (arith, ints) }

pub steps_between-places-requires-clause-low : goal.steps_between-places-requires-clause-low
steps_between-places-requires-clause-low c =
    record {
      low = omega (arith, ints, c.args.shape.parameters, c.requires.normal.operand);
      high = omega (arith, ints, c.args.shape.parameters, c.requires.normal.operand);
    }

pub round_fraction-requires-clause-some : goal.round_fraction-requires-clause-some
round_fraction-requires-clause-some c =
    let e = exponent_word c.args.shape c.args.x.significand c.args.x.exponent c.requires.normal in
    let k = rw e at c.steps_between-places.ensures in
    omega (arith, ints, c.requires.small, k)
