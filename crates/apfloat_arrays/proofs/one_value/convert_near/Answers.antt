use Rattle.std.proofs.Common.{◌∙◌, subst}
use Rattle.rustc_apfloat.specs.{Datum.Datum, Flags.bits_of, FlaggedTypes.constants_of, Lawful.format_with}
use Rattle.apfloat_model.proofs.order.PredicatesAgree.{nan_agrees}
use Rattle.small_formats.specs.saturation.Saturation.{IsConversionBy}
use Rattle.apfloat_arrays.proofs.one_value.convert_near.Goals as goal

pub returns : goal.returns
returns g c =
    record {
      value = c.convert_by-answer.result.value;
      loses = c.convert_by-answer.new.loses_info;
      is_conversion =
          subst
          (λ (x : Datum). IsConversionBy c.args.overflow (format_with (constants_of g.S.Flagged))
          (format_with (constants_of g.T.Flagged)) c.args.round x c.convert_by-answer.result.value
          (bits_of c.convert_by-answer.result.status) c.convert_by-answer.new.loses_info)
          c.from_bits-x.ensures.read c.convert_by-answer.ensures;
      is_encoded = c.to_bits.ensures.written;
      nan_is = c.is_nan.ensures ∙ nan_agrees c.convert_by-answer.result.value;
    }
