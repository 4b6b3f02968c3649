use Rattle.apfloat_model.specs.rounding.Flags.{bits_of}
use Rattle.apfloat_ieee.specs.Types.{format_of}
use Rattle.small_formats.specs.Types.{constants_of}
use Rattle.small_formats.proofs.ModesOnce.{into_of_model}
use Rattle.small_formats.proofs.stored.StoredFloat.from_value.Goals as goal

pub returns : goal.returns
returns g c =
    into_of_model (constants_of g.F.StorageFormat) (format_of g.S.Semantics) c.args.round c.args.x
    c.from_value_by.result.value (bits_of c.from_value_by.result.status) _ c.from_value_by.ensures
