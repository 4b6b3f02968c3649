use Rattle.std.proofs.Common.{◌≡◌, ◌∙◌, drop, false, sym}
use Rattle.apfloat_model.specs.texts.Digits.{begins, is_decimal}
use Rattle.apfloat_decimals.proofs.numbers.LeadingNumbers.{begins_next, begins_none, split_until}
use Rattle.apfloat_decimals.proofs.texts.parts.split_digits.Goals.{After-split_at, then-loop-count-test+else-is_decimal}
use Rattle.apfloat_decimals.proofs.texts.parts.split_digits.Goals.{else-loop-count-test}
use Rattle.apfloat_decimals.proofs.texts.parts.split_digits.Goals as goal

-- the text after the split does not begin with a digit
stops : (state : After-split_at) → begins is_decimal (drop state.loop-count.count state.args.text.now) ≡ false
stops c =
    elim c.loop-count-test.branch [
      | then-loop-count-test+else-is_decimal w ↦ begins_next c.args.text.now c.loop-count.count
          w.loop-count-test.true (sym w.is_decimal.ensures ∙ w.if-is_decimal.false)
      | else-loop-count-test w ↦ begins_none c.args.text.now c.loop-count.count w.loop-count-test.false
    ]

pub returns : goal.returns
returns c =
    let split = split_until c.args.text.now _ _ c.loop-count.count c.split_at.ensures.front c.split_at.ensures.back
    c.loop-count.invariant.digits (stops (goal.at.returns c).After-split_at) in
    record { digits = split.0; rest = split.1 }
