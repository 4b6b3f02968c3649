use Rattle.apfloat_arrays.proofs.scaled_blocks_lemmas.OneArray.{dequantized_once}
use Rattle.apfloat_arrays.proofs.scaled_blocks.theorems.dequantized_arrays_have_one_answer.Goals as goal

pub returns : goal.returns
returns c = dequantized_once
