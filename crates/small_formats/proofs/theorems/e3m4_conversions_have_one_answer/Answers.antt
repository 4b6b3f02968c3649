use Rattle.small_formats.proofs.NarrowCodes.{e3m4_once}
use Rattle.small_formats.proofs.theorems.e3m4_conversions_have_one_answer.Goals as goal

pub returns : goal.returns
returns c = e3m4_once
