use Rattle.std.proofs.Common.{◌^◌}
use Rattle.apfloat_words.proofs.LossTotals.{stands_more, cut_alone}
use Rattle.apfloat_words.proofs.sum.together.Goals as goal

pub returns : goal.returns
returns c =
    stands_more c.shift_right-shifted.result.significand c.args.high c.shift_right-shifted.result.loss c.args.low
    (2 ^ c.args.gap) (cut_alone c.args.low c.shift_right-shifted.result.significand c.args.gap
    c.shift_right-shifted.result.loss c.shift_right-shifted.ensures.stands)
