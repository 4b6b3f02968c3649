-- The words of a command's operands.
use Rattle.std.specs.Prelude.{ℕ, List, [], ◌∷◌}
use Rattle.commands.specs.declared.calculation.Operands.{Operands}

-- the words in the places of three operands
abbrev pub words_of : Operands → List (List ℕ)
words_of operands = operands.first.now ∷ operands.second.now ∷ operands.third.now ∷ []
