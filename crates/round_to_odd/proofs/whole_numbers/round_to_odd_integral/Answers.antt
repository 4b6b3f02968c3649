use Rattle.std.proofs.Common.{not, ap, ◌∙◌}
use Rattle.apfloat_model.specs.rounding.Flags.{bits_of}
use Rattle.apfloat_ieee.specs.FlaggedTypes.{format_of}
use Rattle.round_to_odd.proofs.Wholes.{integral_toward, integral_outward}
use Rattle.round_to_odd.proofs.whole_numbers.round_to_odd_integral.Goals as goal

pub returns-then-is_even : goal.returns-then-is_even
returns-then-is_even g c =
    let away = rw c.outward.ensures at c.round_to_integral.ensures in
    integral_outward (format_of g.S.Flagged) c.args.x c.round_to_integral-truncated.result.value
    c.round_to_integral.result.value (bits_of c.round_to_integral-truncated.result.status)
    (bits_of c.round_to_integral.result.status) c.round_to_integral-truncated.ensures away
    (λ sign t e. c.is_even.ensures sign t e ∙ ap not c.if-is_even.true)

pub returns-else-is_even : goal.returns-else-is_even
returns-else-is_even g c =
    integral_toward (format_of g.S.Flagged) c.args.x c.round_to_integral-truncated.result.value
    (bits_of c.round_to_integral-truncated.result.status) c.round_to_integral-truncated.ensures
    (λ sign t e. c.is_even.ensures sign t e ∙ ap not c.if-is_even.false)
