use Rattle.std.proofs.Common.{◌≡◌, refl}
use Rattle.apfloat_model.specs.declared.kinds.Category.{Category}
use Rattle.apfloat_model.specs.declared.kinds.Category.TheVariants.{Infinity, NaN, Normal, Zero}
use Rattle.apfloat_model.specs.{contracts.kinds.Category.the_type, order.Classes.is_nan_category}
use denote.Enum.Bare.{sameb}
use Rattle.apfloat_base.proofs.float.Float.is_nan.Goals as goal

-- NaN is the only category of NaNs
is_it : (category : Category) → sameb the_type category NaN ≡ is_nan_category category
is_it Infinity = refl
is_it NaN = refl
is_it Normal = refl
is_it Zero = refl

pub returns : goal.returns
returns g c = rw (c.eq.ensures, c.category.ensures) (is_it _)
