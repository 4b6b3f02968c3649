use Rattle.apfloat_decimals.proofs.spelled.SpelledTexts.{some_first, some_second}
use Rattle.apfloat_decimals.proofs.texts.parts.has_some.Goals as goal

pub returns-then-is_empty : goal.returns-then-is_empty
returns-then-is_empty c =
    some_second c.args.first.now c.args.second.now c.is_empty-none.result c.if-is_empty.ensures c.is_empty-none.ensures

pub returns : goal.returns
returns c = some_first c.args.first.now c.args.second.now c.if-is_empty.ensures
