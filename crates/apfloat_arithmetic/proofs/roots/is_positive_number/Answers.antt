use Rattle.std.proofs.Common.{sym, ◌∙◌, rules}
use Rattle.std.proofs.lemmas.Bool.{and_parts, not-true}
use denote.Enum.Bare.{same_true}
use Rattle.apfloat_model.specs.contracts.kinds.Category.{the_type}
use Rattle.apfloat_arithmetic.proofs.roots.is_positive_number.Goals as goal

pub returns-clause-yes : goal.returns-clause-yes
returns-clause-yes c = λ said.
    let both = and_parts c.eq.result _ said in
    (same_true the_type (search rules) _ _ (sym c.eq.ensures ∙ both.0), not-true _ both.1)
