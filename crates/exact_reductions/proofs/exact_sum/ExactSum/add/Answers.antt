use Rattle.std.proofs.Common.{◌+◌, ◌^◌, sym, ◌∙◌, arith}
use Rattle.apfloat_model.specs.{declared.kinds.Round.TheVariants.TowardZero, rounding.Flags.bits_of}
use Rattle.apfloat_model.specs.order.Classes.{quanta_of}
use Rattle.apfloat_model.proofs.{formats.LawfulRanges.ranges_of, order.PredicatesAgree.finite_agrees}
use Rattle.apfloat_ieee.specs.FlaggedTypes.{constants_of, format_of}
use Rattle.exact_reductions.proofs.Placed.{few_digits, power_few, value_units}
use Rattle.exact_reductions.proofs.{Sizes.sum_size, Tallies.finite_value, Tallies.special_value}
use Rattle.exact_reductions.proofs.exact_sum.ExactSum.add.Goals as goal

pub in_quanta-value-requires : goal.in_quanta-value-requires
in_quanta-value-requires g c =
    record { finite = sym (finite_agrees c.args.x) ∙ sym c.is_finite.ensures ∙ c.if-is_finite.true }

pub add_number-requires : goal.add_number-requires
add_number-requires g c =
    let f = format_of g.S.Flagged in
    let ranges = ranges_of (constants_of g.S.Flagged) g.S.Flagged.lawful in
    let room = c.requires.format.room in
    let units = value_units (quanta_of c.args.x) c.in_quanta-value.result.significand c.in_quanta-value.result.place
    f.scale c.in_quanta-value.ensures.value in (
      sum_size g.row.WORDS c.requires.format.few,
      (
        omega (arith, c.scale_of.ensures.value, c.in_quanta-value.ensures.place, room, ranges.scale),
        (
          rw (c.scale_of.ensures.value, units)
              (few_digits (quanta_of c.args.x) (2 ^ f.scale) (f.precision + f.span) g.row.WORDS
              c.in_quanta-value.ensures.within (power_few f.scale (f.precision + f.span) (omega (arith, ranges.scale)))
              (omega (arith, room))),
          c.requires.room,
        ),
      ),
    )

pub returns-then-is_finite : goal.returns-then-is_finite
returns-then-is_finite g c =
    let f = format_of g.S.Flagged in
    let finite = sym (finite_agrees c.args.x) ∙ sym c.is_finite.ensures ∙ c.if-is_finite.true in
    let units = value_units (quanta_of c.args.x) c.in_quanta-value.result.significand c.in_quanta-value.result.place
    f.scale c.in_quanta-value.ensures.value in
    rw (finite_value f c.args.x finite, sym units, sym c.scale_of.ensures.value, sym c.is_negative.ensures)
    c.add_number.ensures

pub add_special-requires : goal.add_special-requires
add_special-requires g c =
    let finite = sym (finite_agrees c.args.x) ∙ sym c.is_finite.ensures ∙ c.if-is_finite.false in (
      sum_size g.row.WORDS c.requires.format.few,
      (
        (special_value (format_of g.S.Flagged) TowardZero c.args.x c.round_to_integral.result.value
            (bits_of c.round_to_integral.result.status) finite c.round_to_integral.ensures).special,
        c.requires.room,
      ),
    )

pub returns-else-is_finite : goal.returns-else-is_finite
returns-else-is_finite g c =
    let finite = sym (finite_agrees c.args.x) ∙ sym c.is_finite.ensures ∙ c.if-is_finite.false in
    rw (sym (special_value (format_of g.S.Flagged) TowardZero c.args.x c.round_to_integral.result.value
    (bits_of c.round_to_integral.result.status) finite c.round_to_integral.ensures).same) c.add_special.ensures
