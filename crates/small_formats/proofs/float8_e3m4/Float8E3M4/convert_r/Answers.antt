use Rattle.std.proofs.Common.{subst}
use Rattle.apfloat_ieee.specs.FlaggedTypes.{format_of}
use Rattle.apfloat_model.specs.{rounding.Flags.bits_of, formats.Datum.Datum}
use Rattle.apfloat_model.specs.arithmetic.Conversions.{IsConversion, IsExactlyConverted}
use Rattle.small_formats.specs.Float8E3M4.{e3m4_format}
use Rattle.small_formats.proofs.NarrowCodes.{same_exactly, same_source}
use Rattle.small_formats.proofs.float8_e3m4.Float8E3M4.convert_r.Goals as goal

pub returns-clause-converted : goal.returns-clause-converted
returns-clause-converted g c =
    let f = format_of g.T.Flagged in
    subst (λ (x : Datum). IsConversion e3m4_format f c.args.round x c.convert_r.result.value
    (bits_of c.convert_r.result.status) c.convert_r.new.loses_info) c.wide.ensures
    (same_source f c.args.round c.wide.result c.convert_r.result.value
    (bits_of c.convert_r.result.status) _ c.convert_r.ensures.converted)

pub returns-clause-exact : goal.returns-clause-exact
returns-clause-exact g c =
    let f = format_of g.T.Flagged in
    subst (λ (x : Datum). IsExactlyConverted e3m4_format f x c.convert_r.result.value
    (bits_of c.convert_r.result.status) c.convert_r.new.loses_info) c.wide.ensures
    (same_exactly f c.wide.result c.convert_r.result.value (bits_of c.convert_r.result.status) _
    c.convert_r.ensures.exact)
