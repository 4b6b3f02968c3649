use Rattle.apfloat_decimals.proofs.digits.EightDigits.{eight_more, eight_more_digits, eight_within}
use Rattle.apfloat_decimals.proofs.texts.eights.eights.Goals as goal

pub loop-eight-preserved : goal.loop-eight-preserved
loop-eight-preserved c =
    let text = c.args.text.now in
    let count = c.loop-eight.count in
    let before = c.loop-eight.invariant in
    let eight = c.in-Some.ensures in
    record {
      within = eight_within text count before.within eight.long;
      digits = eight_more_digits text count before.digits eight.digits;
      number = eight_more text c.args.first c.loop-eight.number c.in-Some.eight count before.within eight.long
          before.number eight.number;
    }
