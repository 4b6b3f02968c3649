use Rattle.exact_reductions.proofs.Laws.{one_product, one_value}
use Rattle.exact_reductions.proofs.theorems.one_term_is_itself.Goals as goal

pub returns : goal.returns
returns c = record { product = one_product; value = one_value }
