use Rattle.std.proofs.Common.{List, ap, sym, subst, ◌∙◌, false, ℕ, max, take, length, refl, arith}
use Rattle.std.proofs.lemmas.{List.take_all, Option.slice_get_read}
use Rattle.apfloat_model.specs.formats.{Datum.Datum, Datum.finite, Members.IsMember}
use Rattle.apfloat_model.specs.order.Classes.{quanta_of}
use Rattle.apfloat_ieee.specs.Types.{format_of}
use Rattle.small_formats.specs.blocks.Magnitudes.{greatest_magnitude}
use Rattle.small_formats.proofs.blocks_lemmas.Greatest.{finite_at, greatest_more, own_quanta, take_more, zero_member}
use Rattle.small_formats.proofs.blocks.magnitudes.greatest_of.Goals as goal

pub loop-index-init : goal.loop-index-init
loop-index-init g c =
    let low = g.S.Semantics.lawful.parameters.precision_low in (
      c.zero-greatest.ensures,
      subst (λ (d : Datum). IsMember (format_of g.S.Semantics) d) (sym c.zero-greatest.ensures)
          (zero_member (format_of g.S.Semantics) (omega (arith, low))),
    )

pub greater-greatest-requires-clause-greatest : goal.greater-greatest-requires-clause-greatest
greater-greatest-requires-clause-greatest g c =
    own_quanta c.loop-index.greatest (greatest_magnitude (take c.loop-index.index c.args.values.now))
    c.loop-index.invariant.0

pub greater-greatest-requires-clause-finite : goal.greater-greatest-requires-clause-finite
greater-greatest-requires-clause-finite g c =
    let x = c.index-values-index.result in
    finite_at c.args.values.now c.loop-index.index x c.requires
    (slice_get_read c.args.values.now (length c.args.values.now) c.loop-index.index x refl
    (omega (arith, c.loop-index-test.true)) c.index-values-index.is)

pub loop-index-preserved : goal.loop-index-preserved
loop-index-preserved g c =
    let values = c.args.values.now in
    let index = c.loop-index.index in
    let x = c.index-values-index.result in
    let here = slice_get_read values (length values) index x refl (omega (arith, c.loop-index-test.true))
    c.index-values-index.is in
    let before = ap quanta_of c.loop-index.invariant.0 in
    let more = ap greatest_magnitude (take_more values index x here) ∙ greatest_more (take index values) x in (
      c.greater-greatest.ensures.value
          ∙ ap (λ (n : ℕ). finite false n) (ap (λ (n : ℕ). max (quanta_of x) n) before ∙ sym more),
      c.greater-greatest.ensures.member,
    )

pub returns-clause-value : goal.returns-clause-value
returns-clause-value g c =
    c.loop-index.invariant.0 ∙ ap (λ (xs : List Datum). finite false (greatest_magnitude xs))
    (take_all c.loop-index.index c.args.values.now (omega (arith, c.loop-index-test.false)))
