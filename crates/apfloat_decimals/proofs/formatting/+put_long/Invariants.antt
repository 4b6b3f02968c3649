use Rattle.apfloat_decimals.proofs.formatting.+put_long.Given as goal

abbrev pub decreases-put_long : goal.decreases-put_long
decreases-put_long l = l.number
