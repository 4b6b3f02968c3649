use Rattle.std.proofs.{Common.arith, Math.Nat.mod-eq_of_lt}
use Rattle.apfloat_rounding.proofs.OddCuts.{top_fits}
use Rattle.apfloat_rounding.proofs.rounding.from_word.at_word_top.Goals as goal

pub returns : goal.returns
returns c = mod-eq_of_lt (omega (arith, top_fits 64 c.args.significand c.args.digits c.requires.word c.requires.fits))
