use Rattle.std.proofs.Common.{◌∙◌, arith}
use Rattle.apfloat_decimals.proofs.spelled.LastDigits.{last_length}
use Rattle.apfloat_decimals.proofs.formatting.put_block.Goals as goal

pub returns : goal.returns
returns c =
    let long = last_length c.args.count c.args.number in
    record {
      taken = c.put_end.ensures.taken ∙ c.store_block.ensures.taken;
      moved = omega (arith, long);
      zeros = c.put_end.ensures.zeros;
    }
