use Rattle.std.proofs.Common.{◌∙◌}
use Rattle.apfloat_decimals.proofs.texts.signs.split_sign.Goals as goal

pub returns-clause-rest : goal.returns-clause-rest
returns-clause-rest c = c.split_at.ensures.back ∙ c.sign_length.ensures.rest
