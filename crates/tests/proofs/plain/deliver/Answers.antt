use Rattle.std.proofs.Common.{ap, sym, ◌∙◌, arith}
use Rattle.apfloat_model.specs.rounding.Flags.{bits_of}
use Rattle.tests.specs.Plain.{datum_of}
use Rattle.tests.proofs.PlainAnswers.{pick_fits, within_is, out_is, stay_is}
use Rattle.tests.proofs.plain.deliver.Goals as goal
use Rattle.tests.proofs.plain.deliver.Goals.{then-bounds, else-bounds}

pub status_within-status-requires-clause-picked : goal.status_within-status-requires-clause-picked
status_within-status-requires-clause-picked c =
    pick_fits c.args.bounds.precision c.args.mode c.args.negative c.args.amount c.args.parts
    c.pick-quanta.result (omega arith) c.requires.small.some_parts c.pick-quanta.ensures
    c.requires.small.amount_bound c.requires.small.parts_bound

pub returns-then-quanta-bounds : goal.returns-then-quanta-bounds
returns-then-quanta-bounds c = λ f h.
    let s = ap bits_of c.and.ensures.status in
    within_is f c.args.bounds c.args.mode c.args.negative c.args.amount c.args.parts c.pick-quanta.result _ _
    h c.pick-quanta.ensures c.if-quanta-bounds.true
    (ap (datum_of c.args.bounds.nonfinite c.args.bounds.precision) c.and.ensures.value ∙
    c.number_of.ensures c.args.bounds.precision) (λ e. s ∙ c.status_within-status.ensures.exact e)
    (λ n. s ∙ c.status_within-status.ensures.inexact n)

pub returns-then-leads_out : goal.returns-then-leads_out
returns-then-leads_out c = λ f h.
    out_is f c.args.bounds c.args.mode c.args.negative c.args.amount c.args.parts c.pick-quanta.result _ _
    h c.pick-quanta.ensures c.if-quanta-bounds.false (sym c.leads_out.ensures ∙ c.if-leads_out.true)
    (ap (datum_of c.args.bounds.nonfinite c.args.bounds.precision) c.and-then-leads_out.ensures.value ∙
    c.past_largest.ensures c.args.bounds.precision)
    (ap bits_of c.and-then-leads_out.ensures.status ∙ c.union.ensures tt)

pub returns : goal.returns
returns c = λ f h.
    stay_is f c.args.bounds c.args.mode c.args.negative c.args.amount c.args.parts c.pick-quanta.result _ _
    h c.pick-quanta.ensures c.if-quanta-bounds.false (sym c.leads_out.ensures ∙ c.if-leads_out.false)
    (ap (datum_of c.args.bounds.nonfinite c.args.bounds.precision) c.and-2.ensures.value)
    (ap bits_of c.and-2.ensures.status ∙
    elim c.if-bounds.branch [
      | then-bounds w ↦ rw w.if-bounds.true (ap bits_of w.status-is ∙ w.union-status.ensures tt)
      | else-bounds w ↦ rw w.if-bounds.false (ap bits_of w.status-is)
    ])
