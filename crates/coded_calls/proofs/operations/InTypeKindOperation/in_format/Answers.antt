use Rattle.rustc_apfloat.specs.FlaggedTypes.{constants_of}
use Rattle.coded_calls.proofs.WrittenAnswers.{left_in_format}
use Rattle.coded_calls.proofs.operations.InTypeKindOperation.in_format.Goals as goal

pub returns : goal.returns
returns g c =
    left_in_format (constants_of g.S.Flagged) c.args.round (g.O.Operation.call c.args.self.operation) c.args.answer.now
    c.made_in.new.answer c.made_in.result c.made_in.ensures
