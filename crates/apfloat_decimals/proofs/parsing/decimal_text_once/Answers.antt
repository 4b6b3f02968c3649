use Rattle.apfloat_decimals.proofs.spelled.TextParts.{only_text}
use Rattle.apfloat_decimals.proofs.spelled.TextReadings.{text_once, text_read, text_parsed}
use Rattle.apfloat_decimals.proofs.parsing.decimal_text_once.Goals as goal

pub returns : goal.returns
returns c = record {
  once = text_once;
  faultless = λ body digits exponent x. (only_text body digits exponent x).faultless;
  read = text_read;
  parsed = text_parsed;
}
