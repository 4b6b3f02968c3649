use Rattle.apfloat_decimals.proofs.spelled.LastDigits.{stored_both}
use Rattle.apfloat_decimals.proofs.formatting.store_eight.Goals as goal

pub returns : goal.returns
returns c = stored_both 4 4 c.args.number c.args.at c.args.bytes.now _ _ c.store_four.ensures c.store_four-2.ensures
