use Rattle.apfloat_model.specs.rounding.Flags.{bits_of}
use Rattle.apfloat_ieee.specs.Types.{format_of}
use Rattle.p3109_formats.specs.Types.{projection_of}
use Rattle.p3109_formats.proofs.OneAnswer.{projections_of_modes}
use Rattle.p3109_formats.proofs.projected.Projected.from_value.Goals as goal

pub returns : goal.returns
returns g c =
    projections_of_modes (projection_of g.F.Projection) (format_of g.S.Semantics) c.args.round c.args.x
    c.from_value_by.result.value (bits_of c.from_value_by.result.status) _ c.from_value_by.ensures
