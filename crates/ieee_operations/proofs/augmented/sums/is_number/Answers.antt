use Rattle.std.proofs.Common.{sym, ◌∙◌}
use Rattle.apfloat_ieee.specs.FlaggedTypes.{format_of}
use Rattle.apfloat_model.proofs.order.Categories.{zero_finite, normal_finite}
use Rattle.ieee_operations.proofs.augmented_lemmas.Numbers.{number_in}
use Rattle.ieee_operations.proofs.augmented.sums.is_number.Goals as goal

pub returns-in-Normal-clause-yes : goal.returns-in-Normal-clause-yes
returns-in-Normal-clause-yes g c =
    λ h. number_in (format_of g.S.Flagged) c.args.x
    (normal_finite c.args.x (sym c.category.ensures.category ∙ c.in-Normal.is)) c.category.ensures.member

pub returns-in-Zero-clause-yes : goal.returns-in-Zero-clause-yes
returns-in-Zero-clause-yes g c =
    λ h. number_in (format_of g.S.Flagged) c.args.x
    (zero_finite c.args.x (sym c.category.ensures.category ∙ c.in-Zero.is)) c.category.ensures.member
