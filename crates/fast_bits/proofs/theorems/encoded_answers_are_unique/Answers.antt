use Rattle.fast_bits.proofs.EncodedOnce.{encoded_answers_once}
use Rattle.fast_bits.proofs.theorems.encoded_answers_are_unique.Goals as goal

pub returns : goal.returns
returns c = encoded_answers_once
