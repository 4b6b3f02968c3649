use Rattle.std.proofs.Common.{ap, arith, sym, ◌∙◌}
use Rattle.apfloat_ieee.specs.Types.{format_of}
use Rattle.apfloat_model.specs.rounding.Flags.{bits_of}
use Rattle.apfloat_model.proofs.order.PredicatesAgree.{finite_agrees}
use Rattle.small_formats.specs.Float8E3M4.{e3m4_datum}
use Rattle.small_formats.proofs.NarrowCodes.{low_narrow, narrowed_datum, past_converted, sided}
use Rattle.small_formats.proofs.NarrowCodes.{special_converted, special_narrow, within_converted}
use Rattle.small_formats.proofs.float8_e3m4.Float8E3M4.from_value.Goals as goal

-- The code of the wide value is that of its datum (`to_bits-code` is the call that gives it).

pub narrowed-requires : goal.narrowed-requires
narrowed-requires g c =
    let other = sym (finite_agrees c.args.x) ∙ sym c.is_finite.ensures ∙ c.if-not-is_finite.true in
    special_narrow (format_of g.S.Semantics) c.args.round c.args.x _ _ c.to_bits-code.result _ other
    c.to_bits-code.ensures.below c.to_bits-code.ensures.back c.convert_r-answer.ensures.converted

pub returns-then-not-is_finite : goal.returns-then-not-is_finite
returns-then-not-is_finite g c =
    let f = format_of g.S.Semantics in
    let other = sym (finite_agrees c.args.x) ∙ sym c.is_finite.ensures ∙ c.if-not-is_finite.true in
    let narrow = special_narrow f c.args.round c.args.x _ _ c.to_bits-code.result _ other
    c.to_bits-code.ensures.below c.to_bits-code.ensures.back c.convert_r-answer.ensures.converted in
    let datum = ap e3m4_datum (c.and.ensures.value ∙ c.from_bits.ensures ∙ c.narrowed.ensures)
    ∙ narrowed_datum c.to_bits-code.result narrow ∙ c.to_bits-code.ensures.back in
    let status = ap bits_of c.and.ensures.status in
    rw (datum, status) (special_converted f c.args.round c.args.x _ _ _ other c.convert_r-answer.ensures.converted)

pub returns-then-code-from : goal.returns-then-code-from
returns-then-code-from g c =
    let f = format_of g.S.Semantics in
    let number = sym (finite_agrees c.args.x) ∙ sym c.is_finite.ensures ∙ c.if-not-is_finite.false in
    let side = rw c.to_bits-code.ensures.back at (sided c.to_bits-code.result c.to_bits-code.ensures.below) in
    past_converted f c.args.round c.args.x c.convert_r-answer.result.value _ _ _ c.to_bits-code.result _ number side
    (omega (arith, c.if-code-from.true)) c.convert_r-answer.ensures.converted
    (rw c.is_negative.ensures at c.past.ensures.value) (rw c.is_negative.ensures at c.past.ensures.status)

pub narrowed-requires-2 : goal.narrowed-requires-2
narrowed-requires-2 g c =
    low_narrow c.to_bits-code.result c.to_bits-code.ensures.below (omega (arith, c.from.ensures, c.if-code-from.false))

pub returns : goal.returns
returns g c =
    let f = format_of g.S.Semantics in
    let number = sym (finite_agrees c.args.x) ∙ sym c.is_finite.ensures ∙ c.if-not-is_finite.false in
    let side = rw c.to_bits-code.ensures.back at (sided c.to_bits-code.result c.to_bits-code.ensures.below) in
    let narrow = low_narrow c.to_bits-code.result c.to_bits-code.ensures.below
    (omega (arith, c.from.ensures, c.if-code-from.false)) in
    let datum = ap e3m4_datum (c.and-2.ensures.value ∙ c.from_bits-2.ensures ∙ c.narrowed-2.ensures)
    ∙ narrowed_datum c.to_bits-code.result narrow ∙ c.to_bits-code.ensures.back in
    let status = ap bits_of c.and-2.ensures.status in
    rw (datum, status) (within_converted f c.args.round c.args.x _ _ c.to_bits-code.result _ number side
    (omega (arith, c.from.ensures, c.if-code-from.false)) c.convert_r-answer.ensures.converted)
