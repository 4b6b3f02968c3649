use Rattle.std.proofs.Common.{length, refl, sym, ap, ◌∙◌, arith}
use Rattle.std.proofs.lemmas.{Option.slice_get_read, List.take_all}
use Rattle.apfloat_model.proofs.order.PredicatesAgree.{finite_agrees}
use Rattle.small_formats.specs.blocks.Magnitudes.{are_finite}
use Rattle.small_formats.proofs.blocks_lemmas.Greatest.{finite_more, one_not_finite}
use Rattle.small_formats.proofs.blocks.magnitudes.are_finite.Goals as goal

pub returns-then-not-is_finite : goal.returns-then-not-is_finite
returns-then-not-is_finite g c =
    let x = c.index-values-index.result in
    sym (one_not_finite c.args.values.now c.loop-index.index x
    (slice_get_read c.args.values.now (length c.args.values.now) c.loop-index.index x refl
    (omega (arith, c.loop-index-test.true)) c.index-values-index.is)
    (sym (finite_agrees x) ∙ sym c.is_finite.ensures ∙ c.if-not-is_finite.true))

pub loop-index-preserved : goal.loop-index-preserved
loop-index-preserved g c =
    let x = c.index-values-index.result in
    finite_more c.args.values.now c.loop-index.index x c.loop-index.invariant
    (slice_get_read c.args.values.now (length c.args.values.now) c.loop-index.index x refl
    (omega (arith, c.loop-index-test.true)) c.index-values-index.is)
    (sym (finite_agrees x) ∙ sym c.is_finite.ensures ∙ c.if-not-is_finite.false)

pub returns : goal.returns
returns g c =
    sym c.loop-index.invariant
    ∙ ap are_finite (take_all c.loop-index.index c.args.values.now (omega (arith, c.loop-index-test.false)))
