use Rattle.apfloat_decimals.proofs.spelled.LastDigits.{stored_both}
use Rattle.apfloat_decimals.proofs.formatting.store_eighteen.Goals as goal

pub returns : goal.returns
returns c = stored_both 10 8 c.args.number c.args.at c.args.bytes.now _ _ c.store_ten.ensures c.store_eight.ensures
