use Rattle.std.proofs.Common.{sym, ◌∙◌, rules}
use Rattle.std.proofs.lemmas.Bool.{and_parts}
use denote.Enum.Bare.{same_true}
use Rattle.apfloat_model.specs.contracts.kinds.Category.{the_type}
use Rattle.apfloat_arithmetic.proofs.classes.are_all_normal.Goals as goal

pub returns-clause-yes : goal.returns-clause-yes
returns-clause-yes c = λ said.
    let all = and_parts _ _ said in
    let both = c.are_normal.ensures.yes all.0 in
    (both.0, both.1, same_true the_type (search rules) _ _ (sym c.eq.ensures ∙ all.1))
