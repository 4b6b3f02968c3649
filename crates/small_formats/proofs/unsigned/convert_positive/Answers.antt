use Rattle.apfloat_model.specs.rounding.Flags.{bits_of}
use Rattle.apfloat_ieee.specs.Types.{format_of}
use Rattle.small_formats.proofs.UnsignedSigns.{sign_converted}
use Rattle.small_formats.proofs.unsigned.convert_positive.Goals as goal

pub code_of-requires : goal.code_of-requires
code_of-requires g c =
    sign_converted (format_of g.S.Semantics) c.args.round c.args.x c.convert_r-answer.result.value
    (bits_of c.convert_r-answer.result.status) _ c.requires.finite c.requires.positive
    c.convert_r-answer.ensures.converted
