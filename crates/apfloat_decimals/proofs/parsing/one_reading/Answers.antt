use Rattle.apfloat_decimals.proofs.spelled.OneReading.{decimal_read_once, parsed_once}
use Rattle.apfloat_decimals.proofs.parsing.one_reading.Goals as goal

pub returns : goal.returns
returns c = record { read = decimal_read_once; parsed = parsed_once }
