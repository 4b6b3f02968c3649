-- What a program answers about itself.
use Rattle.std.specs.Prelude.{ℕ, if◌then◌else◌, List, [], ◌∷◌, ◌++◌, codes, Option, None}
use Rattle.std.specs.Option.{option_or}
use Rattle.rustc_apfloat.specs.Digits.{same}
use Rattle.commands.specs.Commands.{found}
use Rattle.commands.specs.declared.about.About.{About, TheVariants.Help, TheVariants.Version}

-- the words that ask something about a program
abbrev pub questions : List (List ℕ × About)
questions = (codes "--help", Help) ∷ (codes "-h", Help) ∷ (codes "--version", Version) ∷ []

-- the first question among the words before `--`
abbrev pub first_question : List (List ℕ) → Option About
first_question [] = None
first_question (word ∷ others) =
    if same word (codes "--") then None else option_or (found questions word) (first_question others)

-- the name and the version of a program
abbrev pub version_text : List ℕ → List ℕ
version_text program = program ++ codes " 0.1.0\n"

-- the help of a program, or its name and its version
abbrev pub answer_text : About → List ℕ → List ℕ → List ℕ
answer_text Help program help = help
answer_text Version program help = version_text program
