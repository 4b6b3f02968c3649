use Rattle.apfloat_model.specs.rounding.Flags.{bits_of}
use Rattle.apfloat_ieee.specs.FlaggedTypes.{format_of}
use Rattle.ieee_operations.proofs.WithoutInexact.{integral_lowered}
use Rattle.ieee_operations.proofs.whole_numbers.round_to_integral_in.Goals as goal

pub returns : goal.returns
returns g c =
    let exact = c.round_to_integral-exact.result in
    rw (c.and.ensures.value, c.and.ensures.status, c.lower_flags.ensures)
    (integral_lowered (format_of g.S.Flagged) c.args.mode c.args.x exact.value (bits_of exact.status)
    c.round_to_integral-exact.ensures)
