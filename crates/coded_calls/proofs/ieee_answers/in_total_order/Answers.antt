use Rattle.std.proofs.Common.{◌≡◌, Some, ap, rules, ◌∙◌}
use Rattle.std.proofs.{Math.Path.subst₂, lemmas.Int.to_z-of_z}
use Rattle.std.specs.{Int.w32, declared.cmp.Ordering.Ordering}
use Rattle.rustc_apfloat.specs.{FlaggedTypes.constants_of, Lawful.format_with}
use Rattle.ieee_operations.specs.TotalOrder.{total_cmp}
use Rattle.coded_calls.specs.Answers.{order_code}
use Rattle.coded_calls.proofs.ieee_answers.in_total_order.Goals as goal

pub returns : goal.returns
returns g c =
    let f = format_with (constants_of g.S.Flagged) in
    let order = subst₂ (λ x y. c.total_cmp.result ≡ total_cmp f x y) c.value-x.ensures c.value-y.ensures
    c.total_cmp.ensures in
    record {
      holds = c.number.ensures.number ∙ to_z-of_z w32 c.order_code.result (search rules)
          ∙ c.order_code.ensures ∙ ap (λ (o : Ordering). order_code (Some o)) order;
      bits_are = c.number.ensures.bits;
      status_is = c.number.ensures.status;
    }
