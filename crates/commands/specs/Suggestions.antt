-- Words that are one edit apart: a byte is put in, taken out or replaced, or two neighbours are swapped.
use Rattle.std.specs.Prelude.{ℕ, ◌==◌, Bool, false, ◌&&◌, ◌||◌, if◌then◌else◌, List, [], ◌∷◌, length, Option, Some}
use Rattle.std.specs.Prelude.{None, ◌≢◌}
use Rattle.rustc_apfloat.specs.Digits.{same}

-- two words that are one edit apart: at their beginning, or after a byte that they share
pub data IsOneEdit : List ℕ → List ℕ → Type 0 where
  put_in : (y : ℕ) (rest : List ℕ) → IsOneEdit rest (y ∷ rest)
  taken_out : (x : ℕ) (rest : List ℕ) → IsOneEdit (x ∷ rest) rest
  replaced : (x y : ℕ) (rest : List ℕ) → x ≢ y → IsOneEdit (x ∷ rest) (y ∷ rest)
  swapped : (x y : ℕ) (rest : List ℕ) → x ≢ y → IsOneEdit (x ∷ y ∷ rest) (y ∷ x ∷ rest)
  later : (x : ℕ) {word other : List ℕ} → IsOneEdit word other → IsOneEdit (x ∷ word) (x ∷ other)

-- whether a word x ∷ xs, with its first two bytes swapped, is y ∷ ys
abbrev pub is_swap : ℕ → List ℕ → ℕ → List ℕ → Bool
is_swap x [] y ys = false
is_swap x (p ∷ rest) y [] = false
is_swap x (p ∷ rest) y (q ∷ others) = p == y && q == x && same rest others

-- whether two words are one edit apart (`is_one_edit-iff` in proofs/Edits.antt)
abbrev pub is_one_edit : List ℕ → List ℕ → Bool
is_one_edit [] other = length other == 1
is_one_edit (x ∷ xs) [] = length xs == 0
is_one_edit (x ∷ xs) (y ∷ ys) =
    if x == y then is_one_edit xs ys
    else same xs ys || same xs (y ∷ ys) || same (x ∷ xs) ys || is_swap x xs y ys

-- the first of some words that is one edit away from this one
abbrev pub first_near : List ℕ → List (List ℕ) → Option (List ℕ)
first_near word [] = None
first_near word (known ∷ others) = if is_one_edit word known then Some known else first_near word others
