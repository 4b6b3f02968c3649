use Rattle.apfloat_model.specs.declared.kinds.Round.TheVariants.{TowardZero}
use Rattle.rustc_apfloat.specs.{Flags.bits_of, FlaggedTypes.format_of}
use Rattle.coded_calls.proofs.FewerDigits.{widened_is}
use Rattle.coded_calls.proofs.fewer_digits.widened.Goals as goal

pub returns : goal.returns
returns g c = λ short.
    widened_is (format_of g.T.Flagged) (format_of g.S.Flagged) TowardZero c.args.x c.convert_r-wide.result.value
    (bits_of c.convert_r-wide.result.status) c.convert_r-wide.new.loses_info short c.category.ensures.member
    c.convert_r-wide.ensures.converted c.convert_r-wide.ensures.exact
