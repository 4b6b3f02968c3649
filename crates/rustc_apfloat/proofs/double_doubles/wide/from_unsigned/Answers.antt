use Rattle.std.proofs.Common.{ap}
use Rattle.apfloat_model.specs.{rounding.Flags.bits_of, whole_numbers.WholeNumbers.IsFromUnsigned}
use Rattle.apfloat_pair_theory.specs.PairFormats.{wide}
use Rattle.rustc_apfloat.proofs.double_doubles_lemmas.PairSteps.{wide_of_none}
use Rattle.rustc_apfloat.proofs.double_doubles.wide.from_unsigned.Goals as goal

pub returns : goal.returns
returns c =
    wide_of_none (IsFromUnsigned wide c.args.round c.args.number) c.from_u128_r.result.value
    (bits_of c.from_u128_r.result.status) c.split_answer.result.value _ c.from_u128_r.ensures
    (ap bits_of c.split_answer.ensures.status) c.split_answer.ensures.value
