use Rattle.std.proofs.Common.{ap, ◌∙◌}
use Rattle.apfloat_model.specs.rounding.Flags.{bits_of}
use Rattle.apfloat_ieee.specs.FlaggedTypes.{constants_of, format_of}
use Rattle.apfloat_machines.specs.AlternativeHalves.{greatest_code}
use Rattle.apfloat_machines.proofs.AlternativeHalves.{number_is_coded}
use Rattle.apfloat_machines.proofs.alternative_half.rounded_to_code.Goals as goal

pub returns-in-None : goal.returns-in-None
returns-in-None g c =
    number_is_coded (format_of g.S.Flagged) (constants_of g.W.Flagged) c.args.round c.args.x _ _ _ _ _
    c.requires.wide c.requires.number c.convert_r-rounded.ensures.converted
    (rw c.in-None.ensures (
      c.and.ensures.value ∙ c.greatest_code.ensures ∙ ap greatest_code c.is_negative.ensures,
      ap bits_of c.and.ensures.status,
    ))

pub returns-in-Some : goal.returns-in-Some
returns-in-Some g c =
    let is = c.in-Some.ensures in
    number_is_coded (format_of g.S.Flagged) (constants_of g.W.Flagged) c.args.round c.args.x _ _ _ _ _
    c.requires.wide c.requires.number c.convert_r-rounded.ensures.converted
    (rw (is.0, c.and-in-Some.ensures.value) (is.1.0, (is.1.1, ap bits_of c.and-in-Some.ensures.status)))
