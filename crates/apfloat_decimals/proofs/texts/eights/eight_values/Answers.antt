use Rattle.std.proofs.Common.{sym, subst, take}
use Rattle.apfloat_model.specs.texts.Digits.{number}
use Rattle.apfloat_decimals.proofs.digits.EightDigits.{AreCodes, codes_of_digits, codes_low, codes_in_bytes}
use Rattle.apfloat_decimals.proofs.texts.eights.eight_values.Goals.{After-from_le_bytes}
use Rattle.apfloat_decimals.proofs.texts.eights.eight_values.Goals as goal

-- the word has the codes of the digits
codes : (state : After-from_le_bytes) → AreCodes (number 10 (take 8 state.args.text.now)) state.from_le_bytes.result
codes c =
    subst (AreCodes (number 10 (take 8 c.args.text.now))) (sym c.from_le_bytes.ensures)
    (codes_of_digits c.args.text.now c.requires.long c.requires.digits)

pub overflow_sub-result : goal.overflow_sub-result
overflow_sub-result c = codes_low (number 10 (take 8 c.args.text.now)) c.from_le_bytes.result (codes c)

pub returns : goal.returns
returns c = λ all is. rw is (codes_in_bytes (number 10 (take 8 c.args.text.now)) c.from_le_bytes.result (codes c))
