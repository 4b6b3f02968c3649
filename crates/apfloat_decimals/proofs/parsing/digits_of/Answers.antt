use Rattle.std.proofs.Common.{arith}
use Rattle.apfloat_decimals.specs.LeadingDigits.{number_from}
use Rattle.apfloat_decimals.proofs.{numbers.LeadingNumbers.number_joined, spelled.ParsedNumbers.number_low}
use Rattle.apfloat_decimals.proofs.parsing.digits_of.Goals as goal

pub returns-in-None : goal.returns-in-None
returns-in-None c =
    let whole = c.args.whole.now in
    let fraction = c.args.fraction.now in
    let joined = number_joined whole fraction 0 in
    let low = number_low fraction (number_from 0 whole) in
    omega (arith, joined, low, c.in-None.ensures)
