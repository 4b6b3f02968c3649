-- The first fault, from the left, of a text that has no meaning.
use Rattle.std.specs.Prelude.{ℕ, Bool, not, ◌&&◌, ◌||◌, ltb, eqb, if◌then◌else◌, List, [], ◌∷◌, length, take, drop}
use Rattle.std.specs.Prelude.{filter, codes, Option, Some, None, is_some}
use Rattle.apfloat_model.specs.declared.parse_error.Fault.{Fault}
use Rattle.apfloat_model.specs.declared.parse_error.Fault.TheVariants.{EmptyText, LoneMark, NoLiteral, LonePrefix}
use Rattle.apfloat_model.specs.declared.parse_error.Fault.TheVariants.{SecondDot, WrongInSignificand, NoDigits}
use Rattle.apfloat_model.specs.declared.parse_error.Fault.TheVariants.{WrongInExponent, NoExponentDigits, NoExponent}
use Rattle.apfloat_model.specs.texts.Digits.{same, every, begins, is_empty, run, after_run, is_decimal, is_hexadecimal}
use Rattle.apfloat_model.specs.texts.Specials.{after_mark, special_of}

-- the message of the refusal
abbrev pub words : Fault → List ℕ
words EmptyText = codes "Invalid string length"
words LoneMark = codes "String has no digits"
words NoLiteral = codes "Not a special or hexadecimal literal"
words LonePrefix = codes "Invalid string"
words SecondDot = codes "String contains multiple dots"
words WrongInSignificand = codes "Invalid character in significand"
words NoDigits = codes "Significand has no digits"
words WrongInExponent = codes "Invalid character in exponent"
words NoExponentDigits = codes "Exponent has no digits"
words NoExponent = codes "Hex strings require an exponent"

abbrev pub is_dot : ℕ → Bool
is_dot c = eqb c 46

abbrev pub is_p : ℕ → Bool
is_p c = eqb c 112 || eqb c 80

abbrev pub begins_literal : List ℕ → Bool
begins_literal body = same (take 2 body) (codes "0x") || same (take 2 body) (codes "0X")

-- the run of digits and dots after the prefix, and what follows it
abbrev pub is_digit_or_dot : ℕ → Bool
is_digit_or_dot c = is_hexadecimal c || is_dot c

abbrev pub significand_of : List ℕ → List ℕ
significand_of rest = run is_digit_or_dot rest

abbrev pub after_significand : List ℕ → List ℕ
after_significand rest = after_run is_digit_or_dot rest

abbrev pub exponent_fault : List ℕ → Option Fault
exponent_fault digits =
    if not (every is_decimal digits) then Some WrongInExponent
    else (if is_empty digits then Some NoExponentDigits else None)

-- the fault in what follows the significand
abbrev pub tail_fault : List ℕ → Option Fault
tail_fault [] = Some NoExponent
tail_fault (letter ∷ exponent) = exponent_fault (after_mark exponent)

-- the first fault from the left, after the prefix
abbrev pub literal_fault : List ℕ → List ℕ → Option Fault
literal_fault significand tail =
    if ltb 1 (length (filter is_dot significand)) then Some SecondDot
    else (if not (is_empty tail) && not (begins is_p tail) then Some WrongInSignificand
    else (if is_empty (filter is_hexadecimal significand) then Some NoDigits
    else tail_fault tail))

abbrev pub after_prefix_fault : List ℕ → Option Fault
after_prefix_fault rest =
    if is_empty rest then Some LonePrefix else literal_fault (significand_of rest) (after_significand rest)

-- the first fault of a text, or none if the text has a meaning
abbrev pub fault_of : List ℕ → Option Fault
fault_of text =
    if is_empty text then Some EmptyText
    else (if is_empty (after_mark text) then Some LoneMark
    else (if is_some (special_of text) then None
    else (if not (begins_literal (after_mark text)) then Some NoLiteral
    else after_prefix_fault (drop 2 (after_mark text)))))
