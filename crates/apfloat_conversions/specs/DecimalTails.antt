-- What follows the digits of a decimal text, and the first fault there.
use Rattle.std.specs.Prelude.{ℕ, Bool, not, ◌&&◌, ◌||◌, eqb, if◌then◌else◌, List, [], ◌∷◌, Option, Some, None}
use Rattle.apfloat_model.specs.{declared.parse_error.Fault.TheVariants.NoDigits, texts.Digits.begins}
use Rattle.apfloat_model.specs.declared.parse_error.Fault.{Fault, TheVariants.SecondDot, TheVariants.WrongInSignificand}
use Rattle.apfloat_model.specs.texts.{Digits.is_empty, Faults.is_dot, Faults.exponent_fault, Specials.after_mark}

abbrev pub is_e : ℕ → Bool
is_e c = eqb c 101 || eqb c 69

abbrev pub written_fault : List ℕ → Option Fault
written_fault [] = None
written_fault (letter ∷ exponent) = exponent_fault (after_mark exponent)

-- the fault in what follows the digits on both sides of a dot; `some` says whether there are any digits
abbrev pub fault_after : Bool → List ℕ → Option Fault
fault_after some tail =
    if begins is_dot tail then Some SecondDot
    else (if not (is_empty tail) && not (begins is_e tail) then Some WrongInSignificand
    else (if not some then Some NoDigits
    else written_fault tail))
