use Rattle.apfloat_model.specs.rounding.Flags.{bits_of}
use Rattle.apfloat_pair_theory.proofs.pairs.SplitSteps.{rest_by_steps}
use Rattle.rustc_apfloat.proofs.double_doubles.join.rest.Goals as goal

pub returns : goal.returns
returns c =
    rest_by_steps c.args.x c.args.rounded.value c.convert_r.result.value (bits_of c.args.rounded.status)
    c.requires.number
    (record {
      is_wide = c.category.ensures.member;
      is_double = c.category-2.ensures.member;
      loses_info = c.requires.nearest.loses_info;
      high_is = c.requires.nearest.is_conversion;
      widened = c.widened.result;
      widened_is = c.widened.ensures;
      rest = c.sub.result.value;
      rest_status = bits_of c.sub.result.status;
      rest_is = c.sub.ensures;
      low_status = bits_of c.convert_r.result.status;
      low_loses_info = c.convert_r.new.loses_info;
      low_is = c.convert_r.ensures.converted;
    })
