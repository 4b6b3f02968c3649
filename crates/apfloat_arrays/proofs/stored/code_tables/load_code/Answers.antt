use Rattle.std.proofs.Common.{◌∙◌}
use Rattle.apfloat_model.proofs.order.PredicatesAgree.{nan_agrees}
use Rattle.apfloat_arrays.proofs.stored.code_tables.load_code.Goals as goal

pub returns : goal.returns
returns g c =
    record {
      value = c.load-answer.result.value;
      loses = c.load-answer.new.loses_info;
      is_conversion = c.load-answer.ensures;
      is_encoded = c.to_bits.ensures.written;
      nan_is = c.is_nan.ensures ∙ nan_agrees c.load-answer.result.value;
    }
