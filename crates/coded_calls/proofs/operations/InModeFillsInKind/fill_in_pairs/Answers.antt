use Rattle.coded_calls.proofs.WrittenAnswers.{left_returned}
use Rattle.coded_calls.proofs.operations.InModeFillsInKind.fill_in_pairs.Goals as goal

pub returns-in-Some : goal.returns-in-Some
returns-in-Some g c = rw (← c.in-Some.ensures) (left_returned _ _ _ _ _ _ _ c.in_pairs.ensures)
