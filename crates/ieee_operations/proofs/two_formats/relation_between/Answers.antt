use Rattle.std.proofs.Common.{sym, ap, ◌∙◌}
use Rattle.apfloat_model.specs.order.Order.{compared}
use Rattle.apfloat_ieee.specs.FlaggedTypes.{format_of}
use Rattle.ieee_operations.proofs.ZerosOrdered.{zero_ordered}
use Rattle.ieee_operations.proofs.two_formats.relation_between.Goals as goal

pub returns-in-Zero : goal.returns-in-Zero
returns-in-Zero g c =
    c.partial_cmp.ensures ∙ ap (λ z. compared z c.args.y) c.zero.ensures ∙ zero_ordered (format_of g.S.Flagged)
    (format_of g.T.Flagged) c.args.x c.args.y (sym c.category.ensures.category ∙ c.in-Zero.is)
