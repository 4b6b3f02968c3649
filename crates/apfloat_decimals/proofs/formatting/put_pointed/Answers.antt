use Rattle.std.proofs.{Common.lit<, Math.Nat.mod-lt}
use Rattle.apfloat_decimals.proofs.{numbers.Values.power_pos, spelled.PutTexts.put_then}
use Rattle.apfloat_decimals.proofs.formatting.put_pointed.Goals as goal

pub put_padded-requires-clause-few : goal.put_padded-requires-clause-few
put_padded-requires-clause-few c =
    rw c.parts_of-parts.ensures.rest (mod-lt c.args.number (power_pos 10 c.args.places (lit< tt)))

pub returns : goal.returns
returns c =
    rw (c.parts_of-parts.ensures.whole, c.parts_of-parts.ensures.rest) at
    (put_then c.put_number-at.ensures (put_then c.put_byte-at.ensures c.put_padded.ensures))
