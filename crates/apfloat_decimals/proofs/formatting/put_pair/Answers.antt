use Rattle.apfloat_decimals.proofs.spelled.LastDigits.{stored_put}
use Rattle.apfloat_decimals.proofs.formatting.put_pair.Goals as goal

pub returns : goal.returns
returns c = stored_put 2 c.args.number c.args.at c.args.bytes.now _ c.requires.zeros c.store_pair.ensures
