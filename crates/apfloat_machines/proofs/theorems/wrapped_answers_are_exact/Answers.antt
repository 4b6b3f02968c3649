use Rattle.apfloat_machines.proofs.WrappedAnswers.{moved_are_exact, wrapped_once}
use Rattle.apfloat_machines.proofs.theorems.wrapped_answers_are_exact.Goals as goal

pub returns-clause-once : goal.returns-clause-once
returns-clause-once c = wrapped_once

pub returns-clause-exact : goal.returns-clause-exact
returns-clause-exact c = moved_are_exact
