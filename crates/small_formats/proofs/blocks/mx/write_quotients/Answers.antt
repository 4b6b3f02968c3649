use Rattle.std.proofs.Common.{ℕ, ◌*◌, ◌^◌, ◌∙◌, length, refl, arith}
use Rattle.std.proofs.{Math.Nat.mul-pos, lemmas.Nat.pow_pos, lemmas.Option.slice_get_read}
use Rattle.apfloat_model.specs.{order.Classes.quanta_of, rounding.Flags.bits_of}
use Rattle.apfloat_ieee.specs.Types.{format_of}
use Rattle.small_formats.specs.blocks.Elements.{format_of_element}
use Rattle.small_formats.proofs.blocks_lemmas.{Fractions.element_fraction, Greatest.finite_at}
use Rattle.small_formats.proofs.blocks_lemmas.Places.{all_written, length_set, none_written, one_written, room_for}
use Rattle.small_formats.proofs.blocks.mx.write_quotients.Goals as goal

pub quotient_code-answer-requires-clause-finite : goal.quotient_code-answer-requires-clause-finite
quotient_code-answer-requires-clause-finite g c =
    let x = c.index-values-index.result in
    finite_at c.args.values.now c.loop-index.index x c.requires.finite
    (slice_get_read c.args.values.now (length c.args.values.now) c.loop-index.index x refl
    (omega (arith, c.loop-index-test.true)) c.index-values-index.is)

-- the flags are the same for each fraction; one is that of the divisor's quanta
pub with-counts-requires : goal.with-counts-requires
with-counts-requires g c =
    room_for (c.loop-index.invariant.1 (quanta_of c.args.y) (2 ^ (format_of g.R.Semantics).scale)
    c.requires.positive.some refl) (omega (arith, c.loop-index-test.true))

pub loop-index-init : goal.loop-index-init
loop-index-init g c = (c.requires.lengths, λ divisor unit p e. none_written _ c.args.values.now c.args.codes.now)

pub loop-index-preserved : goal.loop-index-preserved
loop-index-preserved g c =
    let f = format_of g.S.Semantics in
    let index = c.loop-index.index in
    let values = c.args.values.now in
    let x = c.index-values-index.result in
    let size = c.loop-index.invariant.0 in
    let here = slice_get_read values (length values) index x refl (omega (arith, c.loop-index-test.true))
    c.index-values-index.is in (
      length_set c.loop-index.codes index c.quotient_code-answer.result.value ∙ size,
      λ divisor unit p e.
          let t = format_of_element c.args.element in
          let parts : ℕ = 2 ^ f.scale * divisor in
          one_written (c.loop-index.invariant.1 divisor unit p e) x c.quotient_code-answer.result.value
          (bits_of c.quotient_code-answer.result.status) (omega (arith, size, c.loop-index-test.true)) here (
            c.quotient_code-answer.ensures.below,
            c.quotient_code-answer.ensures.code (quanta_of x * 2 ^ t.scale * unit) parts (mul-pos (pow_pos f.scale) p)
                (element_fraction (quanta_of x) (quanta_of c.args.y) t.scale (format_of g.R.Semantics).scale f.scale
                divisor unit
                e),
          )
          c.with-counts.ensures,
    )

pub returns : goal.returns
returns g c = λ divisor unit p e. all_written (c.loop-index.invariant.1 divisor unit p e)
    (omega (arith, c.loop-index-test.false, c.loop-index.auto.index-end)) c.loop-index.invariant.0
