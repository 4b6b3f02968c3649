use Rattle.std.proofs.Common.{Bool, ap, ◌∙◌, sym, cond}
use Rattle.apfloat_model.specs.formats.Datum.{finite}
use Rattle.small_formats.specs.Codes.{point}
use Rattle.p3109_formats.specs.Projections.{largest_index, past_value}
use Rattle.p3109_formats.proofs.Values.{largest_some, number_signed}
use Rattle.p3109_formats.proofs.from_value.past_value.Goals as goal

pub returns-then-leads-clause-datum : goal.returns-then-leads-clause-datum
returns-then-leads-clause-datum c =
    let d = c.args.format in
    c.past.ensures.datum ∙ sym (ap (λ (b : Bool). cond b (past_value d c.args.negative)
    (finite c.args.negative (point d.precision (largest_index d)))) c.if-leads.true)

-- the largest number is not zero, so it keeps its sign
pub returns-clause-datum : goal.returns-clause-datum
returns-clause-datum c =
    let d = c.args.format in
    (rw c.largest_index.ensures at c.number.ensures.datum)
    ∙ number_signed d.precision (largest_index d) c.args.negative c.requires.lawful.precision_low
    (largest_some d c.requires.lawful) ∙ sym (ap (λ (b : Bool). cond b (past_value d c.args.negative)
    (finite c.args.negative (point d.precision (largest_index d)))) c.if-leads.false)
