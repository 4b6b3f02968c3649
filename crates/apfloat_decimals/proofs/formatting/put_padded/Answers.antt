use Rattle.std.proofs.{Common.arith, lemmas.Fmt.length-decimal-le_wide}
use Rattle.apfloat_decimals.proofs.spelled.{LastDigits.padded_last, PutTexts.put_same}
use Rattle.apfloat_decimals.proofs.formatting.put_padded.Goals as goal

pub returns-then-places-lt20 : goal.returns-then-places-lt20
returns-then-places-lt20 c =
    let within = length-decimal-le_wide c.args.places c.args.number (omega arith) c.requires.few (omega arith) in
    put_same (padded_last c.args.places c.args.number within (omega arith)) c.put_last.ensures

pub returns-then-at-le28 : goal.returns-then-at-le28
returns-then-at-le28 c =
    let within = length-decimal-le_wide c.args.places c.args.number (omega arith) c.requires.few (omega arith) in
    put_same (padded_last c.args.places c.args.number within (omega arith)) c.put_block.ensures
