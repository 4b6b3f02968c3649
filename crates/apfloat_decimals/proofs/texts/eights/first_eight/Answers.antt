use Rattle.std.proofs.Common.{refl, take}
use Rattle.apfloat_model.specs.texts.Digits.{number}
use Rattle.apfloat_decimals.proofs.texts.eights.first_eight.Goals as goal

pub returns-then-begins_with_eight-clause-number : goal.returns-then-begins_with_eight-clause-number
returns-then-begins_with_eight-clause-number c =
    let all = number 10 (take 8 c.args.text.now) in c.joined.ensures all (c.eight_values.ensures all refl)
