use Rattle.std.proofs.Common.{ap}
use Rattle.apfloat_ieee.specs.FlaggedTypes.{format_of}
use Rattle.apfloat_model.specs.rounding.Flags.{bits_of}
use Rattle.apfloat_pair_theory.specs.PairFormats.{wide}
use Rattle.rustc_apfloat.proofs.double_doubles_lemmas.PairSteps.{wide_of_none}
use Rattle.rustc_apfloat.specs.double_double_operations.PairConversions.{IsConvertedAnyway}
use Rattle.rustc_apfloat.proofs.double_double_operations_lemmas.Operations.{exactly_from}
use Rattle.rustc_apfloat.proofs.double_double_operations.conversions.pair_from_format.Goals as goal

pub returns-clause-pair : goal.returns-clause-pair
returns-clause-pair g c =
    wide_of_none (IsConvertedAnyway (format_of g.S.Flagged) wide c.args.round c.args.x) c.convert_r.result.value
    (bits_of c.convert_r.result.status) c.split_answer.result.value _
    (record { loses_info = c.convert_r.new.loses_info; is_conversion = c.convert_r.ensures.converted })
    (ap bits_of c.split_answer.ensures.status) c.split_answer.ensures.value

pub returns-clause-exact : goal.returns-clause-exact
returns-clause-exact g c =
    exactly_from (format_of g.S.Flagged) c.args.x c.convert_r.result.value (bits_of c.convert_r.result.status)
    c.convert_r.new.loses_info c.split_answer.result.value (bits_of c.split_answer.result.status)
    c.convert_r.ensures.exact c.split_answer.ensures.value (ap bits_of c.split_answer.ensures.status)
