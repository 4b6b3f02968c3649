use Rattle.std.proofs.{Common.arith, Math.Nat.mod-eq_of_lt}
use Rattle.apfloat_rounding.proofs.OddCuts.{top_fits}
use Rattle.fast_bits.proofs.fused.at_double_top.Goals as goal

pub returns : goal.returns
returns c = mod-eq_of_lt (omega (arith, top_fits 128 c.args.significand c.args.digits c.requires.word c.requires.fits))
