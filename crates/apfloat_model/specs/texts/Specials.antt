-- The texts of infinities and NaNs (IEEE 754-2019 5.12.1), and the meanings that a text can have.
use Rattle.std.specs.Prelude.{ℕ, ◌-◌, ◌^◌, ℤ, Bool, true, false, ◌&&◌, ◌||◌, not, ltb, eqb, if◌then◌else◌, List, []}
use Rattle.std.specs.Prelude.{◌∷◌, ◌++◌, length, take, drop, codes, Option, Some, None}
use Rattle.apfloat_model.specs.declared.marks.Mark.{Mark, TheVariants.Unmarked, TheVariants.Plus, TheVariants.Minus}
use Rattle.apfloat_model.specs.declared.marks.Radix.{Radix, TheVariants.Sixteen, TheVariants.Eight, TheVariants.Ten}
use Rattle.apfloat_model.specs.texts.Digits.{same, every, begins, is_empty, is_decimal, is_octal, is_hexadecimal}
use Rattle.apfloat_model.specs.texts.Digits.{number}

-- negative; negative, signaling and payload; negative and h, f, e of h * 2 ^ (e - 4 * f)
pub data TextMeaning : Type 0 where
  infinity : Bool → TextMeaning
  not_a_number : Bool → Bool → ℕ → TextMeaning
  hexadecimal : Bool → ℕ → ℕ → ℤ → TextMeaning

-- the sign that a text or an exponent begins with
abbrev pub mark_of : List ℕ → Mark
mark_of [] = Unmarked
mark_of (c ∷ text) = if eqb c 45 then Minus else (if eqb c 43 then Plus else Unmarked)

abbrev pub after_mark : List ℕ → List ℕ
after_mark [] = []
after_mark (c ∷ text) = if eqb c 45 || eqb c 43 then text else c ∷ text

abbrev pub is_minus : Mark → Bool
is_minus Unmarked = false
is_minus Plus = false
is_minus Minus = true

abbrev pub is_infinity : Mark → List ℕ → Bool
is_infinity Unmarked body = same body (codes "inf") || same body (codes "INFINITY")
is_infinity Plus body = same body (codes "Inf")
is_infinity Minus body = same body (codes "Inf") || same body (codes "inf") || same body (codes "INFINITY")

abbrev pub is_x : ℕ → Bool
is_x c = eqb c 120 || eqb c 88

-- The base of a payload, from its prefix: 0x, a 0 that is not the last character, or no prefix.
abbrev pub radix_of : List ℕ → Radix
radix_of [] = Ten
radix_of (c ∷ []) = Ten
radix_of (c ∷ d ∷ text) = if eqb c 48 then (if is_x d then Sixteen else Eight) else Ten

abbrev pub after_prefix : Radix → List ℕ → List ℕ
after_prefix Sixteen text = drop 2 text
after_prefix Eight text = drop 1 text
after_prefix Ten text = text

-- the text after an optional plus, which may follow the prefix
abbrev pub after_plus : List ℕ → List ℕ
after_plus [] = []
after_plus (c ∷ text) = if eqb c 43 then text else c ∷ text

abbrev pub is_digit_of : Radix → ℕ → Bool
is_digit_of Sixteen c = is_hexadecimal c
is_digit_of Eight c = is_octal c
is_digit_of Ten c = is_decimal c

abbrev pub base_of : Radix → ℕ
base_of Sixteen = 16
base_of Eight = 8
base_of Ten = 10

-- the integer that one or more digits spell, if it is below 2 ^ 128
abbrev pub number_of_digits : Radix → List ℕ → Option ℕ
number_of_digits radix digits =
    if not (is_empty digits) && every (is_digit_of radix) digits && ltb (number (base_of radix) digits) (2 ^ 128)
    then Some (number (base_of radix) digits)
    else None

abbrev pub plain_payload : List ℕ → Option ℕ
plain_payload text = number_of_digits (radix_of text) (after_plus (after_prefix (radix_of text) text))

-- the text without its first and last characters
abbrev pub inside : List ℕ → List ℕ
inside text = take (length text - 2) (drop 1 text)

abbrev pub in_parentheses : List ℕ → List ℕ
in_parentheses text = codes "(" ++ text ++ codes ")"

-- what follows the name of a NaN: nothing, or a payload, plain or in one pair of parentheses
abbrev pub payload_of : List ℕ → Option ℕ
payload_of [] = Some 0
payload_of (c ∷ text) =
    if same (c ∷ text) (in_parentheses (inside (c ∷ text))) then plain_payload (inside (c ∷ text))
    else plain_payload (c ∷ text)

abbrev pub with_payload : Bool → Bool → Option ℕ → Option TextMeaning
with_payload negative signaling None = None
with_payload negative signaling (Some payload) = Some (not_a_number negative signaling payload)

abbrev pub is_nan_name : List ℕ → Bool
is_nan_name text = same text (codes "nan") || same text (codes "NaN")

abbrev pub named_nan : Bool → Bool → List ℕ → Option TextMeaning
named_nan negative signaling text =
    if is_nan_name (take 3 text) then with_payload negative signaling (payload_of (drop 3 text)) else None

-- an s or S before the name makes the NaN signaling
abbrev pub is_s : ℕ → Bool
is_s c = eqb c 115 || eqb c 83

abbrev pub nan_meaning : Mark → List ℕ → Option TextMeaning
nan_meaning Unmarked body = if begins is_s body then named_nan false true (drop 1 body)
    else named_nan false false body
nan_meaning Plus body = None
nan_meaning Minus body = if begins is_s body then named_nan true true (drop 1 body) else named_nan true false body

abbrev pub special_meaning : Mark → List ℕ → Option TextMeaning
special_meaning mark body = if is_infinity mark body then Some (infinity (is_minus mark)) else nan_meaning mark body

-- the infinity or the NaN of a text
abbrev pub special_of : List ℕ → Option TextMeaning
special_of text = special_meaning (mark_of text) (after_mark text)
