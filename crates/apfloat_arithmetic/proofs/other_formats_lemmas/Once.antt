-- Each operation has at most one value and one status.
use Rattle.apfloat_model.proofs.Outcomes.{yields_once}
use Rattle.apfloat_arithmetic.specs.other_formats.Extended.{seen, opposite}
use Rattle.apfloat_arithmetic.specs.other_formats.FormatOf.{sum_of, product_of, quotient_of, fused_sum_of}
use Rattle.apfloat_arithmetic.specs.other_formats.{RootsOf.root_of, Theorems.HasOneSum, Theorems.HasOneDifference}
use Rattle.apfloat_arithmetic.specs.other_formats.Theorems.{HasOneProduct, HasOneQuotient, HasOneFusedSum, HasOneRoot}

pub has_one_sum : HasOneSum
has_one_sum f h g mode x y = yields_once g mode (sum_of g (seen f g x) (seen h g y))

pub has_one_difference : HasOneDifference
has_one_difference f h g mode x y = yields_once g mode (sum_of g (seen f g x) (opposite (seen h g y)))

pub has_one_product : HasOneProduct
has_one_product f h g mode x y = yields_once g mode (product_of g (seen f g x) (seen h g y))

pub has_one_quotient : HasOneQuotient
has_one_quotient f h g mode x y = yields_once g mode (quotient_of g (seen f g x) (seen h g y))

pub has_one_fused_sum : HasOneFusedSum
has_one_fused_sum f h k g mode x y z = yields_once g mode (fused_sum_of g (seen f g x) (seen h g y) (seen k g z))

pub has_one_root : HasOneRoot
has_one_root f g mode x = yields_once g mode (root_of g (seen f g x))
