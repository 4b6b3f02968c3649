use Rattle.std.proofs.Common.{ap}
use Rattle.apfloat_model.specs.{rounding.Flags.bits_of, whole_numbers.WholeNumbers.IsRoundToIntegral}
use Rattle.apfloat_pair_theory.specs.PairFormats.{wide}
use Rattle.rustc_apfloat.proofs.double_doubles_lemmas.PairSteps.{wide_of_one}
use Rattle.rustc_apfloat.proofs.double_doubles.wide.round_to_integral.Goals as goal

pub returns : goal.returns
returns c =
    wide_of_one (IsRoundToIntegral wide c.args.round) c.args.x c.joined.result c.round_to_integral.result.value
    (bits_of c.round_to_integral.result.status) c.split_answer.result.value _ c.joined.ensures
    c.round_to_integral.ensures (ap bits_of c.split_answer.ensures.status) c.split_answer.ensures.value
