use Rattle.ieee_operations.proofs.augmented_lemmas.PayloadsBack.{payloads_kept}
use Rattle.ieee_operations.proofs.augmented.theorems.payloads_are_kept.Goals as goal

pub returns : goal.returns
returns c = payloads_kept
