-- The digits of a decimal text as an integer that fits, and its exponent.
use Rattle.std.proofs.Common.{◌≡◌, ℕ, true, ◌+◌, ◌-◌, ◌*◌, ◌<◌, ◌≤◌, ap, ◌∙◌, arith, List, [], ◌∷◌, ◌++◌, length, take}
use Rattle.std.proofs.Common.{drop, take-append-drop, get_or}
use Rattle.apfloat_model.specs.texts.Digits.{every, is_decimal, digit_value}
use Rattle.apfloat_decimals.specs.LeadingDigits.{number_from}
use Rattle.apfloat_decimals.proofs.numbers.LeadingNumbers.{digit_of, value_of_digit, number_next, number_joined}

-- appending digits makes no number less
pub number_low : (digits : List ℕ) (n : ℕ) → n ≤ number_from n digits
number_low [] n = omega arith
number_low (c ∷ digits) n = let l = number_low digits (n * 10 + digit_value c) in omega arith

pub number_upto : (digits : List ℕ) (i n : ℕ) → number_from n (take i digits) ≤ number_from n digits
number_upto digits i n =
    let e : number_from n (take i digits ++ drop i digits) ≡ number_from n digits =
    ap (λ (t : List ℕ). number_from n t) (take-append-drop i digits) in
    let j = number_joined (take i digits) (drop i digits) n in
    let l = number_low (drop i digits) (number_from n (take i digits)) in
    omega arith

-- the number that the first i + 1 digits of a text spell
pub digit_next : (digits : List ℕ) (i n : ℕ) → every is_decimal digits ≡ true → i < length digits
    → number_from n (take (i + 1) digits) ≡ number_from n (take i digits) * 10 + (get_or digits i 0 - 48)
digit_next digits i n h l =
    number_next digits i n l ∙ ap (λ (v : ℕ). number_from n (take i digits) * 10 + v)
    (value_of_digit (get_or digits i 0) (digit_of digits i h l).1)

-- a number is at least the number that its first digits, with the next one, spell
pub number_past : (digits : List ℕ) (i n all : ℕ) → every is_decimal digits ≡ true → i < length digits
    → all ≡ number_from n (take i digits) → all * 10 + (get_or digits i 0 - 48) ≤ number_from n digits
number_past digits i n all h l e =
    let next = digit_next digits i n h l in
    let whole = number_upto digits (i + 1) n in
    omega arith
