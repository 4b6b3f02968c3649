use Rattle.std.proofs.Common.{ap}
use Rattle.apfloat_model.specs.{arithmetic.FusedSums.IsFusedSum, rounding.Flags.bits_of}
use Rattle.apfloat_pair_theory.specs.PairFormats.{wide}
use Rattle.rustc_apfloat.proofs.double_double_operations_lemmas.Operations.{wide_of_three}
use Rattle.rustc_apfloat.proofs.double_double_operations.fused.pair_mul_add_r.Goals as goal

pub returns : goal.returns
returns c =
    wide_of_three (IsFusedSum wide c.args.round) c.args.x c.args.multiplicand c.args.addend c.joined.result
    c.joined-2.result c.joined-3.result c.wide_mul_add_r.result.value (bits_of c.wide_mul_add_r.result.status)
    c.split_answer.result.value _ c.joined.ensures c.joined-2.ensures c.joined-3.ensures c.wide_mul_add_r.ensures
    (ap bits_of c.split_answer.ensures.status) c.split_answer.ensures.value
