use Rattle.std.proofs.Common.{arith, inl, inr}
use Rattle.apfloat_model.proofs.rounding.Losses.{cut_all}
use Rattle.apfloat_words.proofs.shift.loss_of_all.Goals as goal

pub returns-else-significand-eq0 : goal.returns-else-significand-eq0
returns-else-significand-eq0 c =
    λ places amount unit l u h. cut_all c.args.significand places c.args.loss amount unit l
    c.ranges.significand.fits u (inl (omega arith)) h

pub returns-in_default : goal.returns-in_default
returns-in_default c =
    λ places amount unit l u h. cut_all c.args.significand places c.args.loss amount unit l
    c.ranges.significand.fits u (inr c.in_default.not-ExactlyZero) h
