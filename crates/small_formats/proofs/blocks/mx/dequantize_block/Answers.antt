use Rattle.std.proofs.Common.{◌<◌, ◌∙◌, get_or, length, refl, arith}
use Rattle.std.proofs.lemmas.Option.{slice_get-get_or}
use Rattle.apfloat_model.specs.rounding.Flags.{bits_of}
use Rattle.small_formats.proofs.blocks_lemmas.Places.{all_written, length_set, one_written, room_for}
use Rattle.small_formats.proofs.blocks.mx.dequantize_block.Goals as goal

-- a code with more bits
pub returns-then-not-are_narrow : goal.returns-then-not-are_narrow
returns-then-not-are_narrow g c =
    let some : 0 < length c.args.codes.now = grind (arith, c.is_empty.ensures, c.if-is_empty.false) in
    (some, c.if-values-codes.false, rw c.bits.ensures.value at (c.are_narrow.ensures.no c.if-not-are_narrow.true), refl)

pub scaled-answer-requires : goal.scaled-answer-requires
scaled-answer-requires g c =
    (rw c.bits.ensures.value at (c.are_narrow.ensures.yes c.if-not-are_narrow.false)) c.loop-index.index 0
    (omega (arith, c.loop-index-test.true))

pub with-counts-requires : goal.with-counts-requires
with-counts-requires g c = room_for c.loop-index.invariant.1 (omega (arith, c.loop-index-test.true))

pub loop-index-preserved : goal.loop-index-preserved
loop-index-preserved g c =
    let size = c.loop-index.invariant.0 in
    let here = slice_get-get_or c.args.codes.now c.loop-index.index 0 (omega (arith, c.loop-index-test.true)) in (
      length_set c.loop-index.values c.loop-index.index c.scaled-answer.result.value ∙ size,
      one_written c.loop-index.invariant.1 (get_or c.args.codes.now c.loop-index.index 0)
          c.scaled-answer.result.value (bits_of c.scaled-answer.result.status)
          (omega (arith, size, c.loop-index-test.true)) here c.scaled-answer.ensures c.with-counts.ensures,
    )

pub returns : goal.returns
returns g c =
    let some : 0 < length c.args.codes.now = grind (arith, c.is_empty.ensures, c.if-is_empty.false) in (
      some,
      c.if-values-codes.false,
      rw c.bits.ensures.value at (c.are_narrow.ensures.yes c.if-not-are_narrow.false),
      all_written c.loop-index.invariant.1 (omega (arith, c.loop-index-test.false, c.loop-index.auto.index-end))
          c.loop-index.invariant.0,
    )
