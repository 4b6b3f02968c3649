use Rattle.small_formats.proofs.WideResults.{stored_once}
use Rattle.small_formats.proofs.theorems.stored_results_have_one_answer.Goals as goal

pub returns : goal.returns
returns c = stored_once
