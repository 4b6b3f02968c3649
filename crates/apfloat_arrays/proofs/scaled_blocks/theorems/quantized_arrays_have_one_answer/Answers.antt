use Rattle.apfloat_arrays.proofs.scaled_blocks_lemmas.OneArray.{quantized_once}
use Rattle.apfloat_arrays.proofs.scaled_blocks.theorems.quantized_arrays_have_one_answer.Goals as goal

pub returns : goal.returns
returns c = quantized_once
