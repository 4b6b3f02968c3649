use Rattle.std.proofs.Common.{◌*◌, ◌^◌}
use Rattle.apfloat_model.specs.order.Classes.{quanta_of}
use Rattle.apfloat_ieee.specs.Types.{format_of}
use Rattle.p3109_formats.specs.Projections.{projected_format}
use Rattle.p3109_formats.proofs.from_value.round_positive.Goals as goal

pub returns-clause-rounded : goal.returns-clause-rounded
returns-clause-rounded g c =
    let amount = quanta_of c.args.x * 2 ^ (projected_format c.args.format).scale in
    let exact = rw c.scale.ensures.value at c.pick_by_rule-picked.ensures.exact in
    let delivered = (rw (c.passes-leads.ensures, c.leads_past.ensures, c.round_of-mode.ensures)
    at c.deliver_pick.ensures.delivered) amount (2 ^ (format_of g.S.Semantics).scale) exact in
    record {
      index = c.pick_by_rule-picked.result.index;
      is_pick = rw c.scale.ensures.value at c.pick_by_rule-picked.ensures.picked;
      value_is = delivered.value_is;
      status_is = delivered.status_is;
    }
