use Rattle.rustc_apfloat.specs.FlaggedTypes.{constants_of}
use Rattle.apfloat_arrays.proofs.FarNumbers.{four_answers}
use Rattle.apfloat_arrays.proofs.far_numbers.far_answers.Goals as goal

pub returns : goal.returns
returns g c =
    four_answers c.args.overflow (constants_of g.T.Flagged) c.args.round c.far_answer.result c.far_answer-2.result
    c.far_answer-3.result c.far_answer-4.result c.far_answer.ensures c.far_answer-2.ensures c.far_answer-3.ensures
    c.far_answer-4.ensures
