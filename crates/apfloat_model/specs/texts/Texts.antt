-- What texts mean (IEEE 754-2019 5.12).
use Rattle.std.specs.Prelude.{◌≡◌, ◌⊎◌, ℕ, ◌≤◌, ℤ, pos, neg_ℤ, IsTrue, List, [], ◌++◌, length, codes, Some}
use Rattle.apfloat_model.specs.declared.marks.Mark.{Mark, TheVariants.Unmarked, TheVariants.Plus, TheVariants.Minus}
use Rattle.apfloat_model.specs.texts.Digits.{every, is_decimal, is_hexadecimal, number}
use Rattle.apfloat_model.specs.texts.Specials.{TextMeaning, infinity, not_a_number, hexadecimal, mark_of, after_mark}
use Rattle.apfloat_model.specs.texts.Specials.{is_minus, special_of}

-- an integer with the sign of its mark
abbrev pub marked : Mark → ℕ → ℤ
marked Unmarked n = pos n
marked Plus n = pos n
marked Minus n = neg_ℤ (pos n)

-- 0x, digits with at most one dot, p, and the exponent (5.12.3). The number is h * 2 ^ (e - 4 * f).
pub record IsHexadecimal (body : List ℕ) (h f : ℕ) (e : ℤ) : Type 0 where
  pub prefix : List ℕ
  -- the digits before the dot, the dot if there is one, and the digits after it
  pub whole : List ℕ
  pub point : List ℕ
  pub fraction : List ℕ
  pub letter : List ℕ
  pub exponent : List ℕ
  pub spelled : body ≡ prefix ++ (whole ++ (point ++ (fraction ++ (letter ++ exponent))))
  pub is_prefix : (prefix ≡ codes "0x") ⊎ (prefix ≡ codes "0X")
  pub is_point : (point ≡ codes ".") ⊎ ((point ≡ []) × (fraction ≡ []))
  pub is_letter : (letter ≡ codes "p") ⊎ (letter ≡ codes "P")
  pub are_digits : IsTrue (every is_hexadecimal (whole ++ fraction))
  pub has_digits : 1 ≤ length (whole ++ fraction)
  pub are_exponent_digits : IsTrue (every is_decimal (after_mark exponent))
  pub has_exponent_digits : 1 ≤ length (after_mark exponent)
  pub h_is : h ≡ number 16 (whole ++ fraction)
  pub f_is : f ≡ length fraction
  pub e_is : e ≡ marked (mark_of exponent) (number 10 (after_mark exponent))

-- the text has that meaning
abbrev pub Means : List ℕ → TextMeaning → Type 0
Means text (infinity negative) = special_of text ≡ Some (infinity negative)
Means text (not_a_number negative signaling payload) =
    special_of text ≡ Some (not_a_number negative signaling payload)
Means text (hexadecimal negative h f e) =
    (negative ≡ is_minus (mark_of text)) × IsHexadecimal (after_mark text) h f e
