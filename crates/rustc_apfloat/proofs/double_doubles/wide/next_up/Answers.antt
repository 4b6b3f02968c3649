use Rattle.std.proofs.Common.{ap}
use Rattle.apfloat_model.specs.{rounding.Flags.bits_of, arithmetic.NextUp.IsNextUp}
use Rattle.apfloat_pair_theory.specs.PairFormats.{wide}
use Rattle.rustc_apfloat.proofs.double_doubles_lemmas.PairSteps.{wide_of_one}
use Rattle.rustc_apfloat.proofs.double_doubles.wide.next_up.Goals as goal

pub returns : goal.returns
returns c =
    wide_of_one (IsNextUp wide) c.args.x c.joined.result c.next_up.result.value
    (bits_of c.next_up.result.status) c.split_answer.result.value _ c.joined.ensures c.next_up.ensures.next
    (ap bits_of c.split_answer.ensures.status) c.split_answer.ensures.value
