use Rattle.std.proofs.Common.{rules, ◌+◌, ◌-◌, ◌^◌, ◌<◌, ◌∙◌, sym, arith}
use Rattle.apfloat_model.specs.formats.Format.{smallest_normalized}
use Rattle.apfloat_model.proofs.general.Powers.{twice_half}
use Rattle.apfloat_model.proofs.formats.Ranges.{ieee_within, nan_only_within, negative_zero_within}
use Rattle.apfloat_rounding.specs.{Shapes.format_at, Encoded.layout_at}
use Rattle.apfloat_rounding.proofs.bits.implied_value.Goals as goal
use Rattle.apfloat_rounding.proofs.bits.implied_value.Goals.{else-is_greatest-via-then-is_greatest+else-fields-ones}
use Rattle.apfloat_rounding.proofs.bits.implied_value.Goals.{else-is_greatest-via-else-is_greatest}

pub implied_number-requires-clause-interchange : goal.implied_number-requires-clause-interchange
implied_number-requires-clause-interchange c = c.requires.interchange

pub implied_number-requires-clause-biased : goal.implied_number-requires-clause-biased
implied_number-requires-clause-biased c = c.requires.within.biased_exponent

pub implied_number-requires-clause-trailing : goal.implied_number-requires-clause-trailing
implied_number-requires-clause-trailing c = rw c.requires.implied at c.requires.within.trailing

pub implied_number-requires-else-is_greatest-clause-interchange :
    goal.implied_number-requires-else-is_greatest-clause-interchange
implied_number-requires-else-is_greatest-clause-interchange c = c.requires.interchange

pub implied_number-requires-else-is_greatest-clause-biased :
    goal.implied_number-requires-else-is_greatest-clause-biased
implied_number-requires-else-is_greatest-clause-biased c = c.requires.within.biased_exponent

pub implied_number-requires-else-is_greatest-clause-trailing :
    goal.implied_number-requires-else-is_greatest-clause-trailing
implied_number-requires-else-is_greatest-clause-trailing c = rw c.requires.implied at c.requires.within.trailing

pub implied_number-requires-else-fields-clause-interchange :
    goal.implied_number-requires-else-fields-clause-interchange
implied_number-requires-else-fields-clause-interchange c = c.requires.interchange

pub implied_number-requires-else-fields-clause-biased : goal.implied_number-requires-else-fields-clause-biased
implied_number-requires-else-fields-clause-biased c = c.requires.within.biased_exponent

pub implied_number-requires-else-fields-clause-trailing : goal.implied_number-requires-else-fields-clause-trailing
implied_number-requires-else-fields-clause-trailing c = rw c.requires.implied at c.requires.within.trailing

pub returns-then-fields-eq0-clause-stored : goal.returns-then-fields-eq0-clause-stored
returns-then-fields-eq0-clause-stored c = c.implied_number.ensures.stored

pub returns-else-is_greatest-clause-stored : goal.returns-else-is_greatest-clause-stored
returns-else-is_greatest-clause-stored c = c.implied_number-else-is_greatest.ensures.stored

pub returns-else-fields-clause-stored : goal.returns-else-fields-clause-stored
returns-else-fields-clause-stored c = c.implied_number-else-fields.ensures.stored

pub implied_number-requires-clause-within : goal.implied_number-requires-clause-within
implied_number-requires-clause-within c p = absurd (omega (arith, p, c.if-fields-eq0.true))

pub implied_number-requires-else-is_greatest-clause-within :
    goal.implied_number-requires-else-is_greatest-clause-within
implied_number-requires-else-is_greatest-clause-within c p =
    let f = format_at c.args.shape in
    let l : c.args.fields.trailing < 2 ^ (c.args.shape.precision - 1) =
    rw c.requires.implied at c.requires.within.trailing in
    let t = twice_half c.args.shape.precision (omega (arith, c.args.shape.parameters.precision_low)) in
    nan_only_within f (layout_at c.args.widths) (smallest_normalized f + c.args.fields.trailing)
    c.args.fields.biased_exponent c.requires.interchange c.in-NanOnly.is p (omega (arith, l, t))
    c.requires.within.biased_exponent
    (λ a b. elim c.else-is_greatest.branch [
      | else-is_greatest-via-then-is_greatest+else-fields-ones w ↦ w.if-fields-ones.false
          (omega (arith, b, l, t, w.ones.ensures))
      | else-is_greatest-via-else-is_greatest w ↦ w.if-is_greatest.false (a ∙ sym c.greatest_exponent-greatest.ensures)
    ])

pub implied_number-requires-else-fields-clause-within : goal.implied_number-requires-else-fields-clause-within
implied_number-requires-else-fields-clause-within c p =
    let f = format_at c.args.shape in
    let l : c.args.fields.trailing < 2 ^ (c.args.shape.precision - 1) =
    rw c.requires.implied at c.requires.within.trailing in
    let t = twice_half c.args.shape.precision (omega (arith, c.args.shape.parameters.precision_low)) in
    negative_zero_within f (layout_at c.args.widths) (smallest_normalized f + c.args.fields.trailing)
    c.args.fields.biased_exponent c.requires.interchange c.in-NanNegativeZero.is (omega (arith, l, t))
    c.requires.within.biased_exponent

pub normal_number-requires-clause-within : goal.normal_number-requires-clause-within
normal_number-requires-clause-within c =
    let f = format_at c.args.shape in
    let l : c.args.fields.trailing < 2 ^ (c.args.shape.precision - 1) =
    rw c.requires.implied at c.requires.within.trailing in
    let t = twice_half c.args.shape.precision (omega (arith, c.args.shape.parameters.precision_low)) in
    ieee_within f (layout_at c.args.widths) (smallest_normalized f + c.args.fields.trailing)
    c.args.fields.biased_exponent c.requires.interchange c.in-IEEE754.is (omega (arith, l, t))
    c.requires.within.biased_exponent (search rules steps 500000)
