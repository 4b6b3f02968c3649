-- The text of a decimal is a decimal text of the same number.
use Rattle.std.proofs.Common.{◌≡◌, ◌⊎◌, ℕ, ◌+◌, ◌-◌, ◌*◌, ◌/◌, ◌%◌, ◌^◌, ◌<◌, ◌≤◌, Bool, true, false, refl, sym, ap}
use Rattle.std.proofs.Common.{◌∙◌, inl, inr, ⊎_elim, arith, lit<, zero, suc, add-one, List, [], ◌∷◌, ◌++◌, length}
use Rattle.std.proofs.Common.{replicate, codes, append_assoc, length-append, ℤ, pos, negsuc, neg_ℤ, ◌+ℤ◌, ◌-ℤ◌, ◌≤ℤ◌}
use Rattle.std.proofs.{Common.eqb, Common.leb, Common.subst, lemmas.Int.ints, lemmas.Nat.pow-add}
use Rattle.std.proofs.lemmas.Bool.{cases_Bool, eqb-true, eqb-false, ne_eqb, le-leb, leb-true, and_parts, and_from}
use Rattle.std.proofs.lemmas.Fmt.{decimal_by_steps_wide, decimal_digit, length-decimal-le_wide}
use Rattle.std.specs.Fmt.{decimal, signed_decimal}
use Rattle.apfloat_model.specs.{declared.marks.Mark.TheVariants.Unmarked, arithmetic.Exact.up, arithmetic.Exact.down}
use Rattle.apfloat_model.specs.texts.Digits.{every, is_decimal, digit_value, number}
use Rattle.apfloat_model.specs.texts.Specials.{mark_of, after_mark}
use Rattle.apfloat_model.proofs.general.ListLaws.{append-every}
use Rattle.apfloat_decimals.specs.{declared.decimal.Decimal.Decimal, DecimalTexts.IsWrittenExponent}
use Rattle.apfloat_decimals.specs.{DecimalTexts.IsDecimalText, LeadingDigits.number_from, Parsing.Spells}
use Rattle.apfloat_decimals.specs.{Shortest.IsSameNumber, Texts.padded, Texts.pointed, Texts.is_plain}
use Rattle.apfloat_decimals.specs.ReadBack.{IsStoredDecimal, is_written_whole, written}
use Rattle.apfloat_decimals.specs.Texts.{some_pointed, scientific_text, magnitude_text, sign_text, decimal_text}
use Rattle.apfloat_decimals.proofs.numbers.LeadingNumbers.{value_of_digit, number_joined}
use Rattle.apfloat_decimals.proofs.numbers.Values.{power_pos}
use Rattle.apfloat_decimals.proofs.spelled.WrittenNumbers.{length_more, few_digits, times_ten_small}

-- ---- digits

-- a list of digits of the number n
pub record IsNumeral (n : ℕ) (digits : List ℕ) : Type 0 where
  pub are_digits : every is_decimal digits ≡ true
  pub some : 1 ≤ length digits
  pub number_is : number 10 digits ≡ n

digit_is : (d : ℕ) → d < 10 → is_decimal (48 + d) ≡ true
digit_is d l =
    and_from (leb 48 (48 + d)) (leb (48 + d) 57) (le-leb 48 (48 + d) (omega arith)) (le-leb (48 + d) 57 (omega arith))

digit_number : (n d : ℕ) → d < 10 → number_from n ((48 + d) ∷ []) ≡ n * 10 + d
digit_number n d l =
    let v : digit_value (48 + d) ≡ d = value_of_digit (48 + d) (omega arith) ∙ omega arith in
    ap (λ (x : ℕ). n * 10 + x) v

single_digit : (d : ℕ) → d < 10 → IsNumeral d ((48 + d) ∷ [])
single_digit d l = record {
  are_digits = and_from (is_decimal (48 + d)) true (digit_is d l) refl;
  some = omega arith;
  number_is = digit_number 0 d l ∙ omega arith;
}

more_digits : (n : ℕ) (digits : List ℕ) → 10 ≤ n → IsNumeral (n / 10) digits
    → IsNumeral n (digits ++ ((48 + n % 10) ∷ []))
more_digits n digits l x =
    let d : n % 10 < 10 = omega arith in
    record {
      are_digits = append-every is_decimal digits ((48 + n % 10) ∷ []) x.are_digits
          (single_digit (n % 10) d).are_digits;
      some = let e = length_more digits (48 + n % 10) in omega arith;
      number_is = number_joined digits ((48 + n % 10) ∷ []) 0 ∙ digit_number (number_from 0 digits) (n % 10) d
          ∙ ap (λ (x : ℕ). x * 10 + n % 10) x.number_is ∙ omega arith;
    }

-- the written digits of a number are digits of it
pub number_of_decimal : (n : ℕ) → n < 10 ^ 64 → IsNumeral n (decimal n)
number_of_decimal n few = decimal_by_steps_wide (λ (m : ℕ) (ds : List ℕ). IsNumeral m ds) single_digit more_digits n few

-- a number with digits appended is the number moved up, plus that of the digits
after : (n : ℕ) (digits : List ℕ) → number_from n digits ≡ n * 10 ^ length digits + number_from 0 digits
after n [] = omega arith
after n (c ∷ digits) =
    let e : 10 ^ (length digits + 1) ≡ 10 ^ length digits * 10 = pow-add 10 (length digits) 1 in
    let e' : 10 ^ length (c ∷ digits) ≡ 10 ^ length digits * 10 = rw add-one at e in
    after (n * 10 + digit_value c) digits ∙ rw e' (grown n (digit_value c) (10 ^ length digits) (number_from 0 digits)
    (number_from (0 * 10 + digit_value c) digits) (after (0 * 10 + digit_value c) digits))
  where
    grown : (n d p r s : ℕ) → s ≡ (0 * 10 + d) * p + r → (n * 10 + d) * p + r ≡ n * (p * 10) + s
    grown n d p r s e = omega arith

zeros_number : (count : ℕ) (digits : List ℕ) → number_from 0 (replicate count 48 ++ digits) ≡ number_from 0 digits
zeros_number zero digits = refl
zeros_number (suc count) digits = zeros_number count digits

zeros_digits : (count : ℕ) → every is_decimal (replicate count 48) ≡ true
zeros_digits zero = refl
zeros_digits (suc count) = zeros_digits count

zeros_length : (count : ℕ) → length {A = ℕ} (replicate count 48) ≡ count
zeros_length zero = refl
zeros_length (suc count) = ap suc (zeros_length count)

record IsPadded (places n : ℕ) (digits : List ℕ) : Type 0 where
  are_digits : every is_decimal digits ≡ true
  length_is : length digits ≡ places
  number_is : number 10 digits ≡ n

padded_number : (places n : ℕ) → 0 < places → n < 10 ^ places → n < 10 ^ 64 → IsPadded places n (padded places n)
padded_number places n some below few =
    let x = number_of_decimal n few in
    let zeros = places - length (decimal n) in
    let short : length (decimal n) ≤ places = length-decimal-le_wide places n some below few in
    let long = zeros_length zeros in
    let all : length {A = ℕ} (padded places n) ≡ length {A = ℕ} (replicate zeros 48) + length {A = ℕ} (decimal n) =
    length-append {A = ℕ} (replicate zeros 48) (decimal n) in
    record {
      are_digits = append-every is_decimal (replicate zeros 48) (decimal n) (zeros_digits zeros) x.are_digits;
      length_is = omega arith;
      number_is = zeros_number zeros (decimal n) ∙ x.number_is;
    }

-- ---- exponents

-- a text that begins with a digit has no sign
unmarked : (digits rest : List ℕ) → every is_decimal digits ≡ true → 1 ≤ length digits
    → (mark_of (digits ++ rest) ≡ Unmarked) × (after_mark (digits ++ rest) ≡ digits ++ rest)
unmarked [] rest h l = absurd (omega (arith, l))
unmarked (c ∷ digits) rest h l =
    let digit = (and_parts (is_decimal c) (every is_decimal digits) h).0 in
    let low : 48 ≤ c = leb-true 48 c (and_parts (leb 48 c) (leb c 57) digit).0 in
    let minus : eqb c 45 ≡ false = ne_eqb c 45 (λ e. omega arith) in
    let plus : eqb c 43 ≡ false = ne_eqb c 43 (λ e. omega arith) in
    (rw (minus, plus) refl, rw (minus, plus) refl)

append_none : (xs : List ℕ) → xs ++ [] ≡ xs
append_none [] = refl
append_none (x ∷ xs) = ap (λ (t : List ℕ). x ∷ t) (append_none xs)

exponent_written : (e : ℤ) → neg_ℤ (pos (2 ^ 32)) ≤ℤ e → e ≤ℤ pos (2 ^ 32)
    → IsWrittenExponent (101 ∷ signed_decimal e) e
exponent_written (pos m) low high =
    let x = number_of_decimal m (omega (arith, ints, high)) in
    let none = append_none (decimal m) in
    let mark = unmarked (decimal m) [] x.are_digits x.some in
    let plain : mark_of (decimal m) ≡ Unmarked = rw none at mark.0 in
    let unmarked : after_mark (decimal m) ≡ decimal m = rw none at mark.1 in
    (refl, rw unmarked x.are_digits, rw unmarked x.some, rw (plain, unmarked, x.number_is) refl)
exponent_written (negsuc m) low high =
    let x = number_of_decimal (suc m) (omega (arith, ints, low)) in
    (refl, x.are_digits, x.some, rw x.number_is refl)

-- ---- numbers with a dot

-- digits with a dot among them, and a tail, are a decimal text
dotted : (n places : ℕ) (tail : List ℕ) (written : ℤ) → n < 2 ^ 128 → 0 < places → IsWrittenExponent tail written
    → IsDecimalText (pointed n places ++ tail) n (written -ℤ pos places)
dotted n places tail written few some exponent =
    let unit : 0 < 10 ^ places = power_pos 10 places (lit< tt) in
    let front : n / 10 ^ places ≤ n = omega arith in
    let whole = number_of_decimal (n / 10 ^ places) (omega arith) in
    let fraction = padded_number places (n % 10 ^ places) some (omega arith) (omega arith) in
    let digits = padded places (n % 10 ^ places) in
    let spelled : number 10 (decimal (n / 10 ^ places) ++ digits) ≡ n =
    number_joined (decimal (n / 10 ^ places)) digits 0 ∙ after (number_from 0 (decimal (n / 10 ^ places))) digits
    ∙ rw (whole.number_is, fraction.length_is, fraction.number_is) (omega arith) in
    record {
      whole = decimal (n / 10 ^ places);
      point = codes ".";
      fraction = digits;
      tail = tail;
      written = written;
      spelled = append_assoc (decimal (n / 10 ^ places)) (46 ∷ digits) tail;
      is_point = inl refl;
      are_digits = append-every is_decimal (decimal (n / 10 ^ places)) digits whole.are_digits fraction.are_digits;
      has_digits = let l = length-append (decimal (n / 10 ^ places)) digits in let s = whole.some in omega arith;
      is_written = exponent;
      digits_are = sym spelled;
      exponent_is = rw fraction.length_is refl;
    }

-- digits without a dot, and a tail, are a decimal text
undotted : (n : ℕ) (tail : List ℕ) (written : ℤ) → n < 2 ^ 128 → IsWrittenExponent tail written
    → IsDecimalText (decimal n ++ tail) n (written -ℤ pos 0)
undotted n tail written few exponent =
    let whole = number_of_decimal n (omega arith) in
    let none = append_none (decimal n) in
    record {
      whole = decimal n;
      point = [];
      fraction = [];
      tail = tail;
      written = written;
      spelled = refl;
      is_point = inr (refl, refl);
      are_digits = rw none whole.are_digits;
      has_digits = rw none whole.some;
      is_written = exponent;
      digits_are = sym (rw none whole.number_is);
      exponent_is = refl;
    }

-- ---- magnitudes

-- a decimal text without a sign
record IsMagnitude (text : List ℕ) (digits : ℕ) (exponent : ℤ) : Type 0 where
  is_text : IsDecimalText text digits exponent
  no_mark : mark_of text ≡ Unmarked
  no_sign : after_mark text ≡ text

-- a decimal text that begins with the digits of a number has no sign
begun : (m n : ℕ) (e : ℤ) (rest text : List ℕ) → m < 2 ^ 128 → text ≡ decimal m ++ rest
    → IsDecimalText text n e → IsMagnitude text n e
begun m n e rest text few same x =
    let first = number_of_decimal m (omega arith) in
    let mark = unmarked (decimal m) rest first.are_digits first.some in
    record { is_text = x; no_mark = rw same mark.0; no_sign = rw same mark.1 }

-- a number with a dot and an optional exponent has no sign
begun_dotted : (n places : ℕ) (tail : List ℕ) (written e : ℤ) → n < 2 ^ 128 → 0 < places
    → IsWrittenExponent tail written → written -ℤ pos places ≡ e → IsMagnitude (pointed n places ++ tail) n e
begun_dotted n places tail written e few some exponent same =
    let unit : 0 < 10 ^ places = power_pos 10 places (lit< tt) in
    let front : n / 10 ^ places ≤ n = omega arith in
    begun (n / 10 ^ places) n e (46 ∷ padded places (n % 10 ^ places) ++ tail) (pointed n places ++ tail)
    (omega arith) (append_assoc (decimal (n / 10 ^ places)) (46 ∷ padded places (n % 10 ^ places)) tail)
    (rw (sym same) (dotted n places tail written few some exponent))

zero_text : IsMagnitude (codes "0.0") 0 (neg_ℤ (pos 1))
zero_text =
    let zero : decimal 0 ≡ 48 ∷ [] = decimal_digit 0 (omega arith) in
    let text : pointed 0 1 ++ [] ≡ codes "0.0" = rw zero refl in
    subst (λ (t : List ℕ). IsMagnitude t 0 (neg_ℤ (pos 1))) text
    (begun_dotted 0 1 [] (pos 0) (neg_ℤ (pos 1)) (omega arith) (omega arith) refl refl)

-- an integer written without an exponent, with a zero after its dot
plain_whole : (n : ℕ) (e : ℤ) → n < 2 ^ 128 → is_plain n e ≡ true → eqb (down e) 0 ≡ true
    → IsMagnitude (pointed (n * 10 ^ (up e + 1)) 1) (n * 10 ^ (up e + 1)) (neg_ℤ (pos 1))
plain_whole n e few plain whole =
    let none : down e ≡ 0 = eqb-true (down e) 0 whole in
    let high = leb-true (up e + length (decimal n)) (down e + 21)
    (and_parts (leb (down e) (up e + length (decimal n) + 5)) (leb (up e + length (decimal n)) (down e + 21))
    plain).1 in
    let small : n * 10 ^ (up e + 1) < 2 ^ 128 = times_ten_small n (up e) few (omega arith) in
    let none = append_none (pointed (n * 10 ^ (up e + 1)) 1) in
    rw none at (begun_dotted (n * 10 ^ (up e + 1)) 1 [] (pos 0) (neg_ℤ (pos 1)) small (omega arith) refl refl)

negative_is : (e : ℤ) → 0 < down e → pos 0 -ℤ pos (down e) ≡ e
negative_is (pos m) h = absurd (omega (arith, h))
negative_is (negsuc m) h = omega (arith, ints)

plain_fraction : (n : ℕ) (e : ℤ) → n < 2 ^ 128 → eqb (down e) 0 ≡ false → IsMagnitude (pointed n (down e)) n e
plain_fraction n e few some =
    let places : 0 < down e = below (down e) (eqb-false (down e) 0 some) in
    let none = append_none (pointed n (down e)) in
    rw none at (begun_dotted n (down e) [] (pos 0) e few places refl (negative_is e places))
  where
    below : (m : ℕ) → (m ≡ 0 → ⊥) → 0 < m
    below zero h = absurd (h refl)
    below (suc m) h = omega arith

-- a number written with an exponent
scientific : (n : ℕ) (e : ℤ) → n < 2 ^ 128 → neg_ℤ (pos (2 ^ 31)) ≤ℤ e → e ≤ℤ pos (2 ^ 31 - 1)
    → IsMagnitude (scientific_text n e) n e
scientific n e few low high =
    let places = length (decimal n) - 1 in
    let short = few_digits n few in
    let first = e +ℤ pos places in
    let written = exponent_written first (omega (arith, ints, short)) (omega (arith, ints, short)) in
    go (cases_Bool (eqb places 0)) first written (omega (arith, ints))
  where
    go : (eqb (length (decimal n) - 1) 0 ≡ true) ⊎ (eqb (length (decimal n) - 1) 0 ≡ false) → (first : ℤ)
        → IsWrittenExponent (101 ∷ signed_decimal first) first → first -ℤ pos (length (decimal n) - 1) ≡ e
        → IsMagnitude (some_pointed n (length (decimal n) - 1) ++ (101 ∷ signed_decimal first)) n e
    go (inl none) first written same =
        let z : length (decimal n) - 1 ≡ 0 = eqb-true (length (decimal n) - 1) 0 none in
        let unit : first -ℤ pos 0 ≡ e = rw z at same in
        rw none (begun n n e (101 ∷ signed_decimal first) (decimal n ++ (101 ∷ signed_decimal first)) few refl
        (rw (sym unit) (undotted n (101 ∷ signed_decimal first) first few written)))
    go (inr some) first written same =
        let places = below (length (decimal n) - 1) (eqb-false (length (decimal n) - 1) 0 some) in
        rw some (begun_dotted n (length (decimal n) - 1) (101 ∷ signed_decimal first) first e few places written same)
      where
        below : (m : ℕ) → (m ≡ 0 → ⊥) → 0 < m
        below zero h = absurd (h refl)
        below (suc m) h = omega arith

-- ---- the text of a decimal

magnitude_spelled : (x : Decimal) → IsStoredDecimal x
    → IsMagnitude (magnitude_text x.digits x.exponent) (written x).digits (written x).exponent
magnitude_spelled x stored =
    ⊎_elim (λ (zero : eqb x.digits 0 ≡ true). rw zero zero_text)
    (λ (some : eqb x.digits 0 ≡ false).
    ⊎_elim
    (λ (plain : is_plain x.digits x.exponent ≡ true).
    ⊎_elim
    (λ (whole : eqb (down x.exponent) 0 ≡ true).
    rw (some, plain, whole) (plain_whole x.digits x.exponent stored.digits plain whole))
    (λ (fraction : eqb (down x.exponent) 0 ≡ false).
    rw (some, plain, fraction) (plain_fraction x.digits x.exponent stored.digits fraction))
    (cases_Bool (eqb (down x.exponent) 0)))
    (λ (long : is_plain x.digits x.exponent ≡ false).
    rw (some, long) (scientific x.digits x.exponent stored.digits stored.exponent_low stored.exponent_high))
    (cases_Bool (is_plain x.digits x.exponent)))
    (cases_Bool (eqb x.digits 0))

signed_spelled : (negative : Bool) (text : List ℕ) (digits : ℕ) (exponent : ℤ) → IsMagnitude text digits exponent
    → Spells (sign_text negative ++ text) negative digits exponent
signed_spelled true text digits exponent x = record { sign = refl; is_text = x.is_text }
signed_spelled false text digits exponent x = record { sign = rw x.no_mark refl; is_text = rw x.no_sign x.is_text }

pub text_spelled : (x : Decimal) → IsStoredDecimal x
    → Spells (decimal_text x) x.negative (written x).digits (written x).exponent
text_spelled x stored =
    signed_spelled x.negative (magnitude_text x.digits x.exponent) (written x).digits (written x).exponent
    (magnitude_spelled x stored)

-- the written decimal is the same number
pub written_same : (x : Decimal) → IsSameNumber (written x).digits (written x).exponent x.digits x.exponent
written_same x =
    ⊎_elim
    (λ (zero : eqb x.digits 0 ≡ true). let none = eqb-true x.digits 0 zero in rw zero (rw none (omega arith)))
    (λ (some : eqb x.digits 0 ≡ false).
    ⊎_elim
    (λ (whole : is_written_whole x.digits x.exponent ≡ true).
    let level = eqb-true (down x.exponent) 0
    (and_parts (is_plain x.digits x.exponent) (eqb (down x.exponent) 0) whole).1 in
    let ten : 10 ^ (up x.exponent + 1) ≡ 10 ^ up x.exponent * 10 = pow-add 10 (up x.exponent) 1 in
    rw (some, whole) (same x.digits (10 ^ up x.exponent) (10 ^ (up x.exponent + 1)) (10 ^ down x.exponent) ten
    (ap (λ (n : ℕ). 10 ^ n) level)))
    (λ (other : is_written_whole x.digits x.exponent ≡ false). rw (some, other) refl)
    (cases_Bool (is_written_whole x.digits x.exponent)))
    (cases_Bool (eqb x.digits 0))
  where
    same : (n high more low : ℕ) → more ≡ high * 10 → low ≡ 1 → n * more * 1 * low ≡ n * high * 10
    same n high more low e one = rw (e, one) (omega arith)

-- the numbers of the written decimal belong to their types
pub written_stored : (x : Decimal) → IsStoredDecimal x → IsStoredDecimal (written x)
written_stored x stored =
    ⊎_elim
    (λ (zero : eqb x.digits 0 ≡ true).
    rw zero (record { digits = omega arith; exponent_low = omega (arith, ints); exponent_high = omega (arith, ints) }))
    (λ (some : eqb x.digits 0 ≡ false).
    ⊎_elim
    (λ (whole : is_written_whole x.digits x.exponent ≡ true).
    let p = and_parts (is_plain x.digits x.exponent) (eqb (down x.exponent) 0) whole in
    let level = eqb-true (down x.exponent) 0 p.1 in
    let high = leb-true (up x.exponent + length (decimal x.digits)) (down x.exponent + 21)
    (and_parts (leb (down x.exponent) (up x.exponent + length (decimal x.digits) + 5))
    (leb (up x.exponent + length (decimal x.digits)) (down x.exponent + 21)) p.0).1 in
    let small : x.digits * 10 ^ (up x.exponent + 1) < 2 ^ 128 =
    times_ten_small x.digits (up x.exponent) stored.digits (omega arith) in
    rw (some, whole)
    (record { digits = small; exponent_low = omega (arith, ints); exponent_high = omega (arith, ints) }))
    (λ (other : is_written_whole x.digits x.exponent ≡ false). rw (some, other) stored)
    (cases_Bool (is_written_whole x.digits x.exponent)))
    (cases_Bool (eqb x.digits 0))
