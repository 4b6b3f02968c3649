use Rattle.std.proofs.Common.{◌≤◌, ◌∙◌, get_or, inl, inr, refl, sym, arith}
use Rattle.std.proofs.lemmas.{Bool.eq-eqb, Bool.le-leb, Bool.lt-leb, Bool.ne_eqb, Option.slice_get-get_or}
use Rattle.apfloat_model.specs.rounding.Flags.{bits_of}
use Rattle.small_formats.proofs.blocks_lemmas.Places.{all_written, length_set, one_written, room_for}
use Rattle.small_formats.proofs.blocks.nvfp4.dequantize_nvfp4_block.Goals as goal

pub returns-then-is_empty : goal.returns-then-is_empty
returns-then-is_empty g c = rw (sym c.is_empty.ensures ∙ c.if-is_empty.true) (refl, refl)

pub returns-then-values-codes : goal.returns-then-values-codes
returns-then-values-codes g c =
    rw (sym c.is_empty.ensures ∙ c.if-is_empty.false, ne_eqb _ _ c.if-values-codes.true) (refl, refl)

pub returns-then-not-is_positive : goal.returns-then-not-is_positive
returns-then-not-is_positive g c =
    rw (
      sym c.is_empty.ensures ∙ c.if-is_empty.false,
      eq-eqb _ _ c.if-values-codes.false,
      sym c.is_positive.ensures.test ∙ c.if-not-is_positive.true,
    ) (refl, refl)

pub returns-then-scale-gt-NAN_SCALE : goal.returns-then-scale-gt-NAN_SCALE
returns-then-scale-gt-NAN_SCALE g c =
    rw (
      sym c.is_empty.ensures ∙ c.if-is_empty.false,
      eq-eqb _ _ c.if-values-codes.false,
      sym c.is_positive.ensures.test ∙ c.if-not-is_positive.false,
      lt-leb c.args.scale 127 c.if-scale-gt-NAN_SCALE.true,
    ) (refl, refl)

pub returns-then-not-are_narrow : goal.returns-then-not-are_narrow
returns-then-not-are_narrow g c =
    let most : c.args.scale ≤ 127 = omega (arith, c.if-scale-gt-NAN_SCALE.false) in
    rw (
      sym c.is_empty.ensures ∙ c.if-is_empty.false,
      eq-eqb _ _ c.if-values-codes.false,
      sym c.is_positive.ensures.test ∙ c.if-not-is_positive.false,
      le-leb c.args.scale 127 most,
    )
    (inr (record { wide = c.are_narrow.ensures.no c.if-not-are_narrow.true; refused = (refl, refl) }))

pub nvfp4_scaled-answer-requires-clause-code : goal.nvfp4_scaled-answer-requires-clause-code
nvfp4_scaled-answer-requires-clause-code g c =
    (c.are_narrow.ensures.yes c.if-not-are_narrow.false) c.loop-index.index 0 (omega (arith, c.loop-index-test.true))

pub nvfp4_scaled-answer-requires-clause-scale : goal.nvfp4_scaled-answer-requires-clause-scale
nvfp4_scaled-answer-requires-clause-scale g c = omega (arith, c.if-scale-gt-NAN_SCALE.false)

pub nvfp4_scaled-answer-requires-clause-tensor : goal.nvfp4_scaled-answer-requires-clause-tensor
nvfp4_scaled-answer-requires-clause-tensor g c = c.is_positive.ensures.positive c.if-not-is_positive.false

pub with-counts-requires : goal.with-counts-requires
with-counts-requires g c = room_for c.loop-index.invariant.1 (omega (arith, c.loop-index-test.true))

pub loop-index-preserved : goal.loop-index-preserved
loop-index-preserved g c =
    let size = c.loop-index.invariant.0 in
    let here = slice_get-get_or c.args.codes.now c.loop-index.index 0 (omega (arith, c.loop-index-test.true)) in (
      length_set c.loop-index.values c.loop-index.index c.nvfp4_scaled-answer.result.value ∙ size,
      one_written c.loop-index.invariant.1 (get_or c.args.codes.now c.loop-index.index 0)
          c.nvfp4_scaled-answer.result.value (bits_of c.nvfp4_scaled-answer.result.status)
          (omega (arith, size, c.loop-index-test.true)) here c.nvfp4_scaled-answer.ensures c.with-counts.ensures,
    )

pub returns : goal.returns
returns g c =
    let most : c.args.scale ≤ 127 = omega (arith, c.if-scale-gt-NAN_SCALE.false) in
    rw (
      sym c.is_empty.ensures ∙ c.if-is_empty.false,
      eq-eqb _ _ c.if-values-codes.false,
      sym c.is_positive.ensures.test ∙ c.if-not-is_positive.false,
      le-leb c.args.scale 127 most,
    )
    (inl (record {
      counts = c.loop-index.counts;
      is = refl;
      narrow = c.are_narrow.ensures.yes c.if-not-are_narrow.false;
      elements = all_written c.loop-index.invariant.1
          (omega (arith, c.loop-index-test.false, c.loop-index.auto.index-end)) c.loop-index.invariant.0;
    }))
