use Rattle.std.proofs.Common.{◌≡◌, ◌∙◌, false, not, refl, sym, ap}
use Rattle.std.proofs.lemmas.Bool.{false≢true}
use Rattle.apfloat_model.specs.declared.kinds.Category.{Category}
use Rattle.apfloat_model.specs.declared.kinds.Category.TheVariants.{Infinity, NaN, Normal, Zero}
use Rattle.apfloat_model.specs.order.Classes.{is_nan_category}
use Rattle.apfloat_model.specs.order.Predicates.{is_infinite_category, is_finite_category}
use Rattle.apfloat_base.proofs.float.Float.is_finite.Goals as goal

-- a category that is neither NaN nor infinite is finite
finite_is : (category : Category) → is_nan_category category ≡ false
    → not (is_infinite_category category) ≡ is_finite_category category
finite_is Infinity h = refl
finite_is NaN h = absurd (false≢true (sym h))
finite_is Normal h = refl
finite_is Zero h = refl

pub returns-then-not-is_nan : goal.returns-then-not-is_nan
returns-then-not-is_nan g c =
    ap not (assumption) ∙
    finite_is (g.Self.Float.meaning.category_of c.args.self) (sym c.is_nan.ensures ∙ c.if-not-is_nan.true)
