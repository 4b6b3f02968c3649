use Rattle.std.proofs.{Common.arith, Common.rules, lemmas.Grind.common_steps}
use Rattle.apfloat_decimals.proofs.formatting.put_sign.Goals as goal

pub returns : goal.returns
returns c = record {
  taken = first_of (search rules, grind (arith, common_steps));
  moved = first_of (search rules, grind (arith, common_steps));
  zeros = first_of (search rules, grind (arith, common_steps));
}
