use Rattle.apfloat_decimals.proofs.spelled.Signs.{sign_dropped}
use Rattle.apfloat_decimals.proofs.texts.signs.sign_length.Goals as goal

pub returns-in-len1-up-clause-rest : goal.returns-in-len1-up-clause-rest
returns-in-len1-up-clause-rest c =
    (sign_dropped c.args.text.now c.is_sign.result c.one_if.result c.in-len1-up.len_at_least c.is_sign.ensures
    c.one_if.ensures).1
