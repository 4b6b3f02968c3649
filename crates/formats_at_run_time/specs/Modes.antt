-- The words and the codes of the rounding modes.
use Rattle.std.specs.Prelude.{ℕ, ◌==◌, Bool, if◌then◌else◌, List, [], ◌∷◌, codes, Option, Some, None}
use Rattle.rustc_apfloat.specs.Digits.{same}
use Rattle.rustc_apfloat.specs.declared.Round.{Round, TheVariants.NearestTiesToEven, TheVariants.TowardPositive}
use Rattle.rustc_apfloat.specs.declared.Round.TheVariants.{TowardNegative, TowardZero, NearestTiesToAway}

pub record ModeRow : Type 0 where
  pub mode : Round
  pub word : List ℕ
  pub code : ℕ

abbrev row : Round → List ℕ → ℕ → ModeRow
row mode word code = record { mode = mode; word = word; code = code }

abbrev pub modes : List ModeRow
modes =
    row NearestTiesToEven (codes "even") 0
    ∷ row TowardPositive (codes "up") 1
    ∷ row TowardNegative (codes "down") 2
    ∷ row TowardZero (codes "zero") 3
    ∷ row NearestTiesToAway (codes "away") 4
    ∷ []

-- the mode of the first row that passes a test
abbrev pub first_mode : (ModeRow → Bool) → List ModeRow → Option Round
first_mode test [] = None
first_mode test (row ∷ rows) = if test row then Some row.mode else first_mode test rows

abbrev pub mode_named : List ℕ → Option Round
mode_named word = first_mode (λ (row : ModeRow). same word row.word) modes

abbrev pub mode_coded : ℕ → Option Round
mode_coded code = first_mode (λ (row : ModeRow). code == row.code) modes
