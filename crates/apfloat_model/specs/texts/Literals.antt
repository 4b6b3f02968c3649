-- The parts of a hexadecimal text after its prefix (IEEE 754-2019 5.12.3).
use Rattle.std.specs.Prelude.{ℕ, ℤ, List, length, drop, filter}
use Rattle.apfloat_model.specs.texts.{Texts.marked, Faults.significand_of, Faults.after_significand, Digits.after_run}
use Rattle.apfloat_model.specs.texts.{Digits.is_hexadecimal, Digits.number, Specials.mark_of, Specials.after_mark}

-- the digits on both sides of the dot, as one integer
abbrev pub digits_number : List ℕ → ℕ
digits_number rest = number 16 (filter is_hexadecimal (significand_of rest))

-- how many of them follow the dot
abbrev pub places_after_dot : List ℕ → ℕ
places_after_dot rest = length (drop 1 (after_run is_hexadecimal (significand_of rest)))

-- what follows the letter
abbrev pub exponent_text : List ℕ → List ℕ
exponent_text rest = drop 1 (after_significand rest)

abbrev pub exponent_number : List ℕ → ℤ
exponent_number exponent = marked (mark_of exponent) (number 10 (after_mark exponent))
