use Rattle.std.proofs.Common.{sym, ◌∙◌}
use Rattle.apfloat_ieee.specs.FlaggedTypes.{format_of}
use Rattle.apfloat_model.proofs.order.Categories.{normal_finite}
use Rattle.ieee_operations.proofs.augmented_lemmas.Numbers.{number_in}
use Rattle.ieee_operations.proofs.augmented_lemmas.ProductCases.{some_of_normal, zero_of_category, infinity_of_category}
use Rattle.ieee_operations.proofs.augmented_lemmas.ProductCases.{nan_of_category}
use Rattle.ieee_operations.proofs.augmented.products.is_nonzero.Goals as goal

pub returns-in-Normal-clause-yes : goal.returns-in-Normal-clause-yes
returns-in-Normal-clause-yes g c =
    let e = sym c.category.ensures.category ∙ c.in-Normal.is in
    λ h. record {
      is_in = number_in (format_of g.S.Flagged) c.args.x (normal_finite c.args.x e) c.category.ensures.member;
      some = some_of_normal c.args.x e;
    }

pub returns-in-Zero-clause-no : goal.returns-in-Zero-clause-no
returns-in-Zero-clause-no g c = λ h. zero_of_category c.args.x (sym c.category.ensures.category ∙ c.in-Zero.is)

pub returns-in-Infinity-clause-no : goal.returns-in-Infinity-clause-no
returns-in-Infinity-clause-no g c =
    λ h. infinity_of_category c.args.x (sym c.category.ensures.category ∙ c.in-Infinity.is)

pub returns-in-NaN-clause-no : goal.returns-in-NaN-clause-no
returns-in-NaN-clause-no g c = λ h. nan_of_category c.args.x (sym c.category.ensures.category ∙ c.in-NaN.is)
