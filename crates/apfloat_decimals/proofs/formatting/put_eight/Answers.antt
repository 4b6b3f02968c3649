use Rattle.apfloat_decimals.proofs.spelled.LastDigits.{stored_put}
use Rattle.apfloat_decimals.proofs.formatting.put_eight.Goals as goal

pub returns : goal.returns
returns c = stored_put 8 c.args.number c.args.at c.args.bytes.now _ c.requires.zeros c.store_eight.ensures
