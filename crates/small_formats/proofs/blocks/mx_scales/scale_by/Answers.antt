use Rattle.std.proofs.Common.{◌+◌, ◌<◌, true, false, inr, sym, ◌∙◌, subst, arith}
use Rattle.std.proofs.lemmas.Bool.{false≢true}
use Rattle.apfloat_model.specs.order.Classes.{quanta_of}
use Rattle.apfloat_ieee.specs.Types.{format_of}
use Rattle.small_formats.specs.declared.blocks.mx_scales.ScaleRule.{ScaleRule}
use Rattle.small_formats.specs.blocks.MxScales.{IsScaleBy, clips, outgrows}
use Rattle.small_formats.proofs.blocks_lemmas.LeastScales.{below_next, clips_bounds, every_rule, least_here, least_next}
use Rattle.small_formats.proofs.blocks_lemmas.LeastScales.{outgrows_bounds}
use Rattle.small_formats.proofs.blocks.mx_scales.scale_by.Goals.{in-Floor, in-Ceil, in-Even}
use Rattle.small_formats.proofs.blocks.mx_scales.scale_by.Goals as goal

-- the largest scale is that of each rule
pub returns-then-floor-clause-value : goal.returns-then-floor-clause-value
returns-then-floor-clause-value g c =
    every_rule c.args.rule c.args.element (format_of g.S.Semantics) (quanta_of c.args.greatest) c.scale_for-floor.result
    c.if-floor.true c.scale_for-floor.ensures.value

pub returns-then-is_next-clause-value : goal.returns-then-is_next-clause-value
returns-then-is_next-clause-value g c =
    let element = c.args.element in
    let f = format_of g.S.Semantics in
    let greatest = quanta_of c.args.greatest in
    let floor = c.scale_for-floor.result in
    let is = c.scale_for-floor.ensures.value in
    let By : ScaleRule → Type 0 = λ rule. IsScaleBy rule element f greatest (floor + 1) in
    let below : floor < 254 = let off = c.if-floor.false in let most = c.scale_for-floor.ensures.below in
    omega (arith, off, most) in
    elim c.match-rule.branch [
      | in-Floor w ↦ absurd (false≢true (sym w.is_next-is ∙ c.if-is_next.true))
      | in-Ceil w ↦ subst By (sym w.in-Ceil.is)
          (least_next (clips element f greatest) floor (clips_bounds element f greatest floor is) below
          (sym w.is_clipped-is_next.ensures ∙ sym w.is_next-is ∙ c.if-is_next.true))
      | in-Even w ↦ subst By (sym w.in-Even.is)
          (least_next (outgrows element f greatest) floor (outgrows_bounds element f greatest floor is) below
          (sym (w.becomes_power-is_next.ensures (below_next element f greatest floor below is)) ∙ sym w.is_next-is
          ∙ c.if-is_next.true))
    ]

pub returns-else-is_next-clause-value : goal.returns-else-is_next-clause-value
returns-else-is_next-clause-value g c =
    let element = c.args.element in
    let f = format_of g.S.Semantics in
    let greatest = quanta_of c.args.greatest in
    let floor = c.scale_for-floor.result in
    let is = c.scale_for-floor.ensures.value in
    let By : ScaleRule → Type 0 = λ rule. IsScaleBy rule element f greatest floor in
    let most = c.scale_for-floor.ensures.below in
    let below : floor < 254 = let off = c.if-floor.false in omega (arith, off, most) in
    elim c.match-rule.branch [
      | in-Floor w ↦ subst By (sym w.in-Floor.is) is
      | in-Ceil w ↦ subst By (sym w.in-Ceil.is)
          (least_here (clips element f greatest) floor (clips_bounds element f greatest floor is) most
          (inr (sym w.is_clipped-is_next.ensures ∙ sym w.is_next-is ∙ c.if-is_next.false)))
      | in-Even w ↦ subst By (sym w.in-Even.is)
          (least_here (outgrows element f greatest) floor (outgrows_bounds element f greatest floor is) most
          (inr (sym (w.becomes_power-is_next.ensures (below_next element f greatest floor below is))
          ∙ sym w.is_next-is ∙ c.if-is_next.false)))
    ]
