use Rattle.apfloat_rounding.proofs.ShapeExponents.{exponent_word}
use Rattle.apfloat_conversions.proofs.HeldNumbers.{normal_there, precise_there, same_there, held_shift}
use Rattle.apfloat_conversions.proofs.held.widened.Goals as goal

pub returns-clause-stored : goal.returns-clause-stored
returns-clause-stored c =
    let s = c.args.from in
    let t = c.args.into in
    let m = c.args.x.significand in
    let e = c.args.x.exponent in
    rw (
      c.significand_of.ensures,
      held_shift s.precision t.precision m (precise_there s t e c.requires.held) c.args.into.parameters.precision_high
          c.requires.x.operand.fits,
      exponent_word s m e c.requires.x,
    )
    (normal_there s t m e c.requires.held c.requires.x)

pub returns-clause-same : goal.returns-clause-same
returns-clause-same c =
    let s = c.args.from in
    let t = c.args.into in
    let m = c.args.x.significand in
    let e = c.args.x.exponent in
    let p = precise_there s t e c.requires.held in
    rw (
      c.significand_of.ensures,
      held_shift s.precision t.precision m p c.args.into.parameters.precision_high c.requires.x.operand.fits,
      exponent_word s m e c.requires.x,
    )
    (same_there s t m e p c.requires.x
    (normal_there s t m e c.requires.held c.requires.x))
