-- Whether a text is refused does not depend on the type that it is read into.
use Rattle.std.specs.Prelude.{◌≡◌, ℕ, List, None, Result, Ok, Err}
use Rattle.rustc_apfloat.specs.declared.{ParseError.ParseError, Round.Round, StatusAnd.StatusAnd}
use Rattle.rustc_apfloat.specs.{Faults.fault_of, Readings.IsRefusal}

-- read if it has no fault, otherwise refused with the words for its first fault
abbrev pub IsReadOrRefused : {A : Type 0} → List ℕ → Result (StatusAnd A) ParseError → Type 0
IsReadOrRefused text (Ok answer) = fault_of text ≡ None
IsReadOrRefused text (Err error) = IsRefusal text error.0.now

-- a type reads each text without a fault, and refuses any other
abbrev pub ReadsTexts : {A : Type 0} → (List ℕ → Round → Result (StatusAnd A) ParseError → Type 0) → Type 0
ReadsTexts {A} reads =
    (text : List ℕ) (mode : Round) (answer : Result (StatusAnd A) ParseError)
    → reads text mode answer → IsReadOrRefused text answer
