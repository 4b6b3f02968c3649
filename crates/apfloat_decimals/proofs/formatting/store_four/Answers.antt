use Rattle.apfloat_decimals.proofs.spelled.LastDigits.{stored_both}
use Rattle.apfloat_decimals.proofs.formatting.store_four.Goals as goal

pub returns : goal.returns
returns c = stored_both 2 2 c.args.number c.args.at c.args.bytes.now _ _ c.store_pair.ensures c.store_pair-2.ensures
