use Rattle.std.proofs.Common.{subst}
use Rattle.apfloat_model.specs.{arithmetic.Conversions.IsConversion, rounding.Flags.bits_of}
use Rattle.apfloat_model.specs.formats.Lawful.{Constants, format_with}
use Rattle.apfloat_ieee.specs.FlaggedTypes.{format_of}
use Rattle.apfloat_machines.specs.AlternativeHalves.{number_coded}
use Rattle.apfloat_machines.proofs.alternative_half.code_to_number.Goals as goal

pub returns : goal.returns
returns g c =
    let given = c.convert_r.result in
    let loses = c.convert_r.new.loses_info in
    let number = number_coded c.args.bits in
    let target = format_of g.T.Flagged in (
      loses,
      subst
          (λ (k : Constants).
          IsConversion (format_with k) target c.args.round number given.value (bits_of given.status) loses)
          c.requires (rw c.number_coded.ensures at c.convert_r.ensures.converted),
    )
