use Rattle.small_formats.proofs.packing_lemmas.Once.{packed_once}
use Rattle.small_formats.proofs.packing.theorems.packed_codes_have_one_answer.Goals as goal

pub returns : goal.returns
returns c = packed_once
