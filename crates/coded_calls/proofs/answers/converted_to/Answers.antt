use Rattle.rustc_apfloat.specs.FlaggedTypes.{constants_of}
use Rattle.coded_calls.proofs.NumberAnswers.{number_in_format}
use Rattle.coded_calls.proofs.answers.converted_to.Goals as goal

pub returns-in-Some : goal.returns-in-Some
returns-in-Some g c =
    number_in_format (constants_of g.S.Flagged) (constants_of g.T.Flagged) c.args.round c.args.x c.in-Some.number
    c.converted_number.result c.in-Some.ensures c.converted_number.ensures.bits c.converted_number.ensures.status
    c.converted_number.ensures.number
