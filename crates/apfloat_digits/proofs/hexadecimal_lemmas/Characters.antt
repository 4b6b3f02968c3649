-- Digits and exponents as characters: what they are read as, and how many there are.
use Rattle.std.proofs.Common.{◌≡◌, ℕ, zero, suc, ◌+◌, ◌-◌, ◌*◌, ◌/◌, ◌%◌, ◌^◌, ◌<◌, ◌≤◌, true, false, refl, sym, ap}
use Rattle.std.proofs.Common.{◌∙◌, ⊎_elim, arith, add-one, List, [], ◌∷◌, ◌++◌, length, length-append, append_assoc}
use Rattle.std.proofs.Common.{eqb, leb, ℤ, pos, negsuc, neg_ℤ, ◌≤ℤ◌}
use Rattle.std.proofs.lemmas.{Int.ints, Nat.pow-add}
use Rattle.std.proofs.lemmas.Bool.{and_from, and_parts, cases_lt, leb-true, le-leb, lt-leb, le-ltb, lt-ltb, ne_eqb}
use Rattle.std.specs.Fmt.{decimal, signed_decimal}
use Rattle.apfloat_model.specs.declared.marks.Mark.TheVariants.{Unmarked}
use Rattle.apfloat_model.specs.texts.{Literals.exponent_number, Specials.mark_of, Specials.after_mark}
use Rattle.apfloat_model.specs.texts.Digits.{every, is_decimal, is_hexadecimal, digit_value}
use Rattle.apfloat_model.proofs.general.ListLaws.{append-every}
use Rattle.apfloat_decimals.proofs.spelled.{WrittenNumbers.length_more, WrittenTexts.number_of_decimal}
use Rattle.apfloat_conversions.specs.hex_texts.Scans.{number_from}
use Rattle.apfloat_digits.specs.hexadecimal.HexTexts.{character, digits_text}

-- ---- hexadecimal digits

-- a character is a digit of that value
pub record IsDigit (c d : ℕ) : Type 0 where
  pub value : digit_value c ≡ d
  pub is : is_hexadecimal c ≡ true

pub small_digit : (d : ℕ) → d < 10 → IsDigit (48 + d) d
small_digit d l =
    let from = le-leb 48 (48 + d) (omega arith) in
    let to = le-leb (48 + d) 57 (omega (arith, l)) in
    record { value = rw to (omega arith); is = rw (from, to) refl }

pub great_digit : (d : ℕ) → 10 ≤ d → d < 16 → IsDigit (87 + d) d
great_digit d l h =
    let from = le-leb 48 (87 + d) (omega arith) in
    let past = lt-leb (87 + d) 57 (omega (arith, l)) in
    let capital = le-leb 65 (87 + d) (omega arith) in
    let small = lt-leb (87 + d) 70 (omega (arith, l)) in
    let letter = le-leb 97 (87 + d) (omega (arith, l)) in
    let last = le-leb (87 + d) 102 (omega (arith, h)) in
    record { value = rw (past, small) (omega arith); is = rw (from, past, capital, small, letter, last) refl }

pub digit_of : (d : ℕ) → d < 16 → IsDigit (character d) d
digit_of d l =
    ⊎_elim (λ (low : d < 10). rw (lt-ltb d 10 low) (small_digit d low))
    (λ (high : 10 ≤ d). rw (le-ltb d 10 high) (great_digit d high l)) (cases_lt d 10)

joined : (n : ℕ) (xs ys : List ℕ) → number_from n (xs ++ ys) ≡ number_from (number_from n xs) ys
joined n [] ys = refl
joined n (c ∷ xs) ys = joined (n * 16 + digit_value c) xs ys

-- digits after the integer m are read as m moved up, plus their number
pub digits_number : (places m n : ℕ) → n < 16 ^ places → number_from m (digits_text places n) ≡ m * 16 ^ places + n
digits_number zero m n l = let e : m ≡ m * 16 ^ 0 + n = omega (arith, l) in e
digits_number (suc p) m n l =
    let power : 16 ^ (p + 1) ≡ 16 ^ p * 16 = pow-add 16 p 1 in
    let power' : 16 ^ suc p ≡ 16 ^ p * 16 = rw add-one at power in
    let value = (digit_of (n % 16) (omega arith)).value in
    let below : n / 16 < 16 ^ p = omega (arith, l, power') in
    joined m (digits_text p (n / 16)) (character (n % 16) ∷ [])
    ∙ ap (λ (x : ℕ). x * 16 + digit_value (character (n % 16))) (digits_number p m (n / 16) below)
    ∙ rw (value, power') (whole m (16 ^ p) n)
  where
    whole : (m p n : ℕ) → (m * p + n / 16) * 16 + n % 16 ≡ m * (p * 16) + n
    whole m p n = omega arith

pub digits_length : (places n : ℕ) → length (digits_text places n) ≡ places
digits_length zero n = refl
digits_length (suc p) n =
    let before = digits_length p (n / 16) in
    (length_more (digits_text p (n / 16)) (character (n % 16))) ∙ ap (λ (x : ℕ). x + 1) before ∙ omega arith

pub digits_hexadecimal : (places n : ℕ) → every is_hexadecimal (digits_text places n) ≡ true
digits_hexadecimal zero n = refl
digits_hexadecimal (suc p) n =
    append-every is_hexadecimal (digits_text p (n / 16)) (character (n % 16) ∷ []) (digits_hexadecimal p (n / 16))
    (and_from (is_hexadecimal (character (n % 16))) true (digit_of (n % 16) (omega arith)).is refl)

-- ---- digits one by one

last_text : (places n : ℕ) → 0 < places
    → digits_text places n ≡ digits_text (places - 1) (n / 16) ++ (character (n % 16) ∷ [])
last_text zero n p = absurd (omega (arith, p))
last_text (suc p) n l = let e : suc p - 1 ≡ p = omega arith in rw e refl

-- appending the last digit after the others appends all
pub last_digit : (text : List ℕ) (places n : ℕ) → 0 < places
    → (text ++ digits_text (places - 1) (n / 16)) ++ (character (n % 16) ∷ []) ≡ text ++ digits_text places n
last_digit text places n some =
    append_assoc text (digits_text (places - 1) (n / 16)) (character (n % 16) ∷ [])
    ∙ ap (λ (t : List ℕ). text ++ t) (sym (last_text places n some))

-- the text has room for the last digit
pub room_for_last : (text : List ℕ) (places n : ℕ) → 0 < places → length text + places ≤ 64
    → length (text ++ digits_text (places - 1) (n / 16)) < 64
room_for_last text places n some room =
    let both = length-append text (digits_text (places - 1) (n / 16)) in
    omega (arith, digits_length (places - 1) (n / 16), both, room, some)

-- ---- exponents

-- the text of an exponent, after the letter
pub record IsExponentText (text : List ℕ) (e : ℤ) : Type 0 where
  pub are_digits : every is_decimal (after_mark text) ≡ true
  pub some : 1 ≤ length (after_mark text)
  pub is : e ≡ exponent_number text

-- a text that begins with a digit has no sign
unmarked : (digits : List ℕ) → every is_decimal digits ≡ true → 1 ≤ length digits
    → (mark_of digits ≡ Unmarked) × (after_mark digits ≡ digits)
unmarked [] h l = absurd (omega (arith, l))
unmarked (c ∷ digits) h l =
    let digit = (and_parts (is_decimal c) (every is_decimal digits) h).0 in
    let low : 48 ≤ c = leb-true 48 c (and_parts (leb 48 c) (leb c 57) digit).0 in
    let minus : eqb c 45 ≡ false = ne_eqb c 45 (λ e. omega arith) in
    let plus : eqb c 43 ≡ false = ne_eqb c 43 (λ e. omega arith) in
    (rw (minus, plus) refl, rw (minus, plus) refl)

pub exponent_written : (e : ℤ) → neg_ℤ (pos (2 ^ 32)) ≤ℤ e → e ≤ℤ pos (2 ^ 32) → IsExponentText (signed_decimal e) e
exponent_written (pos m) low high =
    let x = number_of_decimal m (omega (arith, ints, high)) in
    let mark = unmarked (decimal m) x.are_digits x.some in
    record { are_digits = rw mark.1 x.are_digits; some = rw mark.1 x.some; is = rw (mark.0, mark.1, x.number_is) refl }
exponent_written (negsuc m) low high =
    let x = number_of_decimal (suc m) (omega (arith, ints, low)) in
    record { are_digits = x.are_digits; some = x.some; is = rw x.number_is refl }
