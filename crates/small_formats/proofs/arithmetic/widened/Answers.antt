use Rattle.apfloat_model.specs.rounding.Flags.{bits_of}
use Rattle.small_formats.specs.Types.{constants_of}
use Rattle.small_formats.proofs.WideResults.{wide, wide_format, widened_is}
use Rattle.small_formats.proofs.arithmetic.widened.Goals as goal

pub returns : goal.returns
returns g c =
    let d = constants_of g.F.StorageFormat in
    widened_is d wide_format (wide d g.F.StorageFormat.lawful) c.args.x c.convert_r.result.value
    (bits_of c.convert_r.result.status) _ c.convert_r.ensures.exact
