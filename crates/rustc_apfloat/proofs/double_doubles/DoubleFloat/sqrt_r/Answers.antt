use Rattle.std.proofs.Common.{ap}
use Rattle.apfloat_model.specs.{rounding.Flags.bits_of, arithmetic.Roots.IsRoot}
use Rattle.apfloat_pair_theory.specs.PairFormats.{wide}
use Rattle.rustc_apfloat.proofs.double_doubles_lemmas.PairSteps.{wide_of_one}
use Rattle.rustc_apfloat.proofs.double_doubles.DoubleFloat.sqrt_r.Goals as goal

pub returns : goal.returns
returns c =
    wide_of_one (IsRoot wide c.args.round) c.args.self c.joined.result c.sqrt_r.result.value
    (bits_of c.sqrt_r.result.status) c.split_answer.result.value _ c.joined.ensures c.sqrt_r.ensures.root
    (ap bits_of c.split_answer.ensures.status) c.split_answer.ensures.value
