use Rattle.std.proofs.{Common.arith, Math.Nat.mod-eq_of_lt}
use Rattle.apfloat_words.proofs.OddTotals.{moved_fits}
use Rattle.fast_bits.proofs.sums.moved_up.Goals as goal

pub returns : goal.returns
returns c =
    let fits = moved_fits c.args.significand c.args.precision 62 (omega (arith, c.requires.short)) c.requires.fits in
    mod-eq_of_lt (omega (arith, fits))
