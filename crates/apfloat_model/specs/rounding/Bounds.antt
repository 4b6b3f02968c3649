-- Bounds of exponents, units and places, within which they fit in signed 32-bit integers.
--
-- By the law of formats, `MIN_EXP` and `MAX_EXP` are within `format_bound`, and a significand has at most 125 digits.
-- Each further bound has room for everything computed from numbers within the previous bounds.
use Rattle.std.specs.Prelude.{ℕ, ◌-◌, ◌^◌, ℤ, pos, neg_ℤ, ◌≤ℤ◌}

-- at most `bound` away from 0, on either side
pub record IsWithin (bound : ℕ) (x : ℤ) : Type 0 where
  pub low : neg_ℤ (pos bound) ≤ℤ x
  pub high : x ≤ℤ pos bound

-- the least and the greatest exponent that a format may have, of integer bits
abbrev pub format_bound : ℕ
format_bound = 2 ^ 20

-- a format's scale, and the span of its exponents
abbrev pub span_bound : ℕ
span_bound = 2 ^ 21

-- exponents of the integer bits of a format's numbers, including denormal ones
abbrev pub number_bound : ℕ
number_bound = 2 ^ 21

-- places by which a number is scaled: more of them do not change the result
abbrev pub scaling_bound : ℕ
scaling_bound = 6000000

-- exponents of last digits in a text: those farther away do not change the result
abbrev pub text_bound : ℕ
text_bound = 2 ^ 22

-- exponents of digits at most 128 places from a last digit: of the integer bit of a scaled number
abbrev pub integer_bit_bound : ℕ
integer_bit_bound = 2 ^ 23 - 2 ^ 7

-- exponents of last digits: of numbers and scaled numbers, of products and quotients, of texts
abbrev pub exponent_bound : ℕ
exponent_bound = 2 ^ 23

-- units, which are exponents of last digits relative to a format's quantum: the format's scale is added
abbrev pub unit_bound : ℕ
unit_bound = 2 ^ 24

-- places of the last digits that a format keeps, also relative to the quantum: at most 128 above a unit
abbrev pub place_bound : ℕ
place_bound = 2 ^ 25
