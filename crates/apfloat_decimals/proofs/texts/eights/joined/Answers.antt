use Rattle.apfloat_decimals.proofs.digits.EightDigits.{eight_joined}
use Rattle.apfloat_decimals.proofs.texts.eights.joined.Goals as goal

pub returns : goal.returns
returns c = λ all digits. eight_joined all c.args.digits digits
