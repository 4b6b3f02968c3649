use Rattle.std.proofs.Common.{refl}
use Rattle.apfloat_words.proofs.product.full_product.Goals as goal

pub returns : goal.returns
returns c = refl
