use Rattle.rustc_apfloat.specs.FlaggedTypes.{constants_of}
use Rattle.coded_calls.proofs.EncodedNumbers.{spelled_if_some}
use Rattle.coded_calls.proofs.encoded_decimals.read_short.Goals as goal

pub returns-in-Some : goal.returns-in-Some
returns-in-Some g c =
    let number = c.in-Some.number in
    spelled_if_some (constants_of g.S.Flagged) c.args.round c.args.text.now number.negative number.digits
    number.exponent c.encode_decimal.result c.in-Some.ensures.spelled c.encode_decimal.ensures
