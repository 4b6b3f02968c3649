use Rattle.std.proofs.Common.{◌+◌, ◌-◌, arith}
use Rattle.apfloat_rounding.specs.Cuts.{loss_at}
use Rattle.fast_bits.proofs.RootAnswers.{root_fits, root_full, root_top, short_guess}
use Rattle.fast_bits.proofs.roots.root_digits.Goals as goal

pub guessed_root-requires : goal.guessed_root-requires
guessed_root-requires c =
    root_top c.args.precision c.args.significand c.args.odd c.requires.some c.requires.short c.requires.odd
    c.requires.full c.requires.fits

pub root_if_right-requires : goal.root_if_right-requires
root_if_right-requires c =
    short_guess c.guessed_root.result (64 - c.args.precision) c.guessed_root.type_inv (omega (arith, c.requires.short))

pub returns-in-Some-clause-full : goal.returns-in-Some-clause-full
returns-in-Some-clause-full c =
    let root = c.in-Some.root in
    root_full c.args.precision (c.args.precision - 1 + c.args.odd) c.args.significand root.kept
    (loss_at root.rest 2) c.requires.some (omega arith) (omega (arith, c.requires.some, c.requires.odd))
    c.requires.fits c.requires.full (rw c.with_zeros-number.ensures at c.in-Some.ensures)

pub returns-in-Some-clause-fits : goal.returns-in-Some-clause-fits
returns-in-Some-clause-fits c =
    let root = c.in-Some.root in
    root_fits c.args.precision (c.args.precision - 1 + c.args.odd) c.args.significand root.kept
    (loss_at root.rest 2) (omega (arith, c.requires.some, c.requires.odd)) c.requires.fits
    (rw c.with_zeros-number.ensures at c.in-Some.ensures)
