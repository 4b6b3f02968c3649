-- A text that has a meaning, or is a decimal, is ASCII.
use mathlib.Core.Bool.{Bool}
use Rattle.std.proofs.Common.{◌≡◌, ◌⊎◌, inl, inr, ℕ, ◌<◌, ◌≤◌, ◌^◌, ℤ, not, true, false}
use Rattle.std.proofs.Common.{◌&&◌, ◌||◌, cond, refl, ap, subst, ⊎_elim, arith, List, [], ◌∷◌, ◌++◌}
use Rattle.std.proofs.Common.{take, drop, take-append-drop, codes, eqb, leb, ltb, Option, Some, None, is_some}
use Rattle.std.proofs.lemmas.Bool.{and_parts, and_from, or_cases, cond_both, eqb-true, leb-true, lt-ltb, false≢true}
use Rattle.std.specs.Char.{is_ascii}
use Rattle.apfloat_model.specs.texts.Digits.{every, same, begins, is_empty, is_decimal, is_hexadecimal, number}
use Rattle.apfloat_model.specs.texts.Specials.{TextMeaning, infinity, not_a_number, hexadecimal, mark_of, after_mark}
use Rattle.apfloat_model.specs.texts.Specials.{is_minus, is_infinity, is_x, radix_of, after_prefix, after_plus}
use Rattle.apfloat_model.specs.texts.Specials.{is_digit_of, base_of, number_of_digits, plain_payload, inside}
use Rattle.apfloat_model.specs.texts.Specials.{in_parentheses, payload_of, with_payload, is_nan_name, named_nan, is_s}
use Rattle.apfloat_model.specs.texts.Specials.{nan_meaning, special_meaning, special_of}
use Rattle.apfloat_model.specs.texts.Texts.{IsHexadecimal, Means}
use Rattle.apfloat_model.specs.declared.marks.Mark.{Mark, TheVariants.Unmarked, TheVariants.Plus, TheVariants.Minus}
use Rattle.apfloat_model.specs.declared.marks.Radix.{Radix, TheVariants.Sixteen, TheVariants.Eight, TheVariants.Ten}
use Rattle.apfloat_model.specs.{declared.kinds.Round.Round, formats.Datum.Datum, formats.Format.Format}
use Rattle.apfloat_model.proofs.general.ListLaws.{every-append, append-every, every_weaker}
use Rattle.apfloat_decimals.specs.DecimalTexts.{IsWrittenExponent, IsDecimalText, IsDecimalReading}

abbrev IsAllAscii : List ℕ → Type 0
IsAllAscii text = every is_ascii text ≡ true

-- ---- characters

-- a character that is at most an ASCII character is ASCII
up_to : (c last : ℕ) → last < 128 → leb c last ≡ true → is_ascii c ≡ true
up_to c last small h =
    let most : c ≤ last = leb-true c last h in
    lt-ltb c 128 (omega (arith, small, most))

-- a character up to an ASCII character, and not below another, is ASCII
between : (first c last : ℕ) → last < 128 → (leb first c && leb c last) ≡ true → is_ascii c ≡ true
between first c last small h = up_to c last small (and_parts (leb first c) (leb c last) h).1

is_one_of : (c other : ℕ) → is_ascii other ≡ true → eqb c other ≡ true → is_ascii c ≡ true
is_one_of c other ascii h = rw (eqb-true c other h) ascii

decimal_ascii : (c : ℕ) → is_decimal c ≡ true → is_ascii c ≡ true
decimal_ascii c h = between 48 c 57 (omega arith) h

hexadecimal_ascii : (c : ℕ) → is_hexadecimal c ≡ true → is_ascii c ≡ true
hexadecimal_ascii c h =
    let upper = leb 65 c && leb c 70 in
    let lower = leb 97 c && leb c 102 in
    ⊎_elim
    (λ (e : (is_decimal c || upper) ≡ true).
    ⊎_elim (λ (digit : is_decimal c ≡ true). decimal_ascii c digit)
    (λ (x : upper ≡ true). between 65 c 70 (omega arith) x)
    (or_cases (is_decimal c) upper e))
    (λ (x : lower ≡ true). between 97 c 102 (omega arith) x)
    (or_cases (is_decimal c || upper) lower h)

digit_ascii : (radix : Radix) (c : ℕ) → is_digit_of radix c ≡ true → is_ascii c ≡ true
digit_ascii Sixteen c h = hexadecimal_ascii c h
digit_ascii Eight c h = between 48 c 55 (omega arith) h
digit_ascii Ten c h = decimal_ascii c h

-- a character that is one of two ASCII characters is ASCII
is_either : (c one other : ℕ) → is_ascii one ≡ true → is_ascii other ≡ true → (eqb c one || eqb c other) ≡ true
    → is_ascii c ≡ true
is_either c one other first second h =
    ⊎_elim (λ (e : eqb c one ≡ true). is_one_of c one first e) (λ (e : eqb c other ≡ true). is_one_of c other second e)
    (or_cases (eqb c one) (eqb c other) h)

-- ---- texts

with_first : (c : ℕ) (text : List ℕ) → is_ascii c ≡ true → IsAllAscii text → IsAllAscii (c ∷ text)
with_first c text first rest = and_from (is_ascii c) (every is_ascii text) first rest

-- a text that equals an ASCII text is ASCII
same_ascii : (text other : List ℕ) → IsAllAscii other → same text other ≡ true → IsAllAscii text
same_ascii [] other ascii h = refl
same_ascii (c ∷ text) [] ascii h = absurd (false≢true h)
same_ascii (c ∷ text) (d ∷ other) ascii h =
    let parts = and_parts (eqb c d) (same text other) h in
    let ascii_parts = and_parts (is_ascii d) (every is_ascii other) ascii in
    with_first c text (is_one_of c d ascii_parts.0 parts.0) (same_ascii text other ascii_parts.1 parts.1)

-- a text that equals one of two ASCII texts is ASCII
same_as_either : (text one other : List ℕ) → IsAllAscii one → IsAllAscii other
    → (same text one || same text other) ≡ true → IsAllAscii text
same_as_either text one other first second h =
    ⊎_elim (λ (e : same text one ≡ true). same_ascii text one first e)
    (λ (e : same text other ≡ true). same_ascii text other second e)
    (or_cases (same text one) (same text other) h)

-- a text whose first characters and whose others are ASCII is ASCII
of_parts : (count : ℕ) (text : List ℕ) → IsAllAscii (take count text) → IsAllAscii (drop count text)
    → IsAllAscii text
of_parts count text start rest =
    subst IsAllAscii (take-append-drop count text)
    (append-every is_ascii (take count text) (drop count text) start rest)

after_mark_ascii : (text : List ℕ) → IsAllAscii (after_mark text) → IsAllAscii text
after_mark_ascii [] = λ h. refl
after_mark_ascii (c ∷ text) =
    cond_both (eqb c 45 || eqb c 43) text (c ∷ text) (λ (t : List ℕ). IsAllAscii t → IsAllAscii (c ∷ text))
    (λ e h. with_first c text (is_either c 45 43 refl refl e) h) (λ e h. h)

-- ---- payloads

-- if there is a payload, the text is ASCII
abbrev HasAscii : {A : Type 0} → List ℕ → Option A → Type 0
HasAscii {A} text found = is_some found ≡ true → IsAllAscii text

digits_ascii : (radix : Radix) (digits : List ℕ) → HasAscii digits (number_of_digits radix digits)
digits_ascii radix digits =
    cond_both
    (not (is_empty digits) && every (is_digit_of radix) digits && ltb (number (base_of radix) digits) (2 ^ 128))
    (Some (number (base_of radix) digits)) None (λ (o : Option ℕ). HasAscii digits o)
    (λ e some.
    every_weaker (is_digit_of radix) is_ascii (digit_ascii radix) digits
    (and_parts _ _ (and_parts _ _ e).0).1)
    (λ e some. absurd (false≢true some))

after_plus_ascii : (text : List ℕ) → IsAllAscii (after_plus text) → IsAllAscii text
after_plus_ascii [] = λ h. refl
after_plus_ascii (c ∷ text) =
    cond_both (eqb c 43) text (c ∷ text) (λ (t : List ℕ). IsAllAscii t → IsAllAscii (c ∷ text))
    (λ e h. with_first c text (is_one_of c 43 refl e) h) (λ e h. h)

after_prefix_ascii : (text : List ℕ) → IsAllAscii (after_prefix (radix_of text) text) → IsAllAscii text
after_prefix_ascii [] = λ h. h
after_prefix_ascii (c ∷ []) = λ h. h
after_prefix_ascii (c ∷ d ∷ text) =
    cond_both (eqb c 48) (cond (is_x d) Sixteen Eight) Ten
    (λ (r : Radix). IsAllAscii (after_prefix r (c ∷ d ∷ text)) → IsAllAscii (c ∷ d ∷ text))
    (λ zero.
    cond_both (is_x d) Sixteen Eight
    (λ (r : Radix). IsAllAscii (after_prefix r (c ∷ d ∷ text)) → IsAllAscii (c ∷ d ∷ text))
    (λ x h.
    with_first c (d ∷ text) (is_one_of c 48 refl zero)
    (with_first d text (is_either d 120 88 refl refl x) h))
    (λ x h. with_first c (d ∷ text) (is_one_of c 48 refl zero) h))
    (λ e h. h)

plain_ascii : (text : List ℕ) → HasAscii text (plain_payload text)
plain_ascii text some =
    let digits = after_prefix (radix_of text) text in
    after_prefix_ascii text
    (after_plus_ascii digits (digits_ascii (radix_of text) (after_plus digits) some))

payload_ascii : (text : List ℕ) → HasAscii text (payload_of text)
payload_ascii [] = λ some. refl
payload_ascii (c ∷ text) =
    let within = inside (c ∷ text) in
    cond_both (same (c ∷ text) (in_parentheses within)) (plain_payload within) (plain_payload (c ∷ text))
    (λ (o : Option ℕ). HasAscii (c ∷ text) o)
    (λ e some.
    same_ascii (c ∷ text) (in_parentheses within)
    (append-every is_ascii within (codes ")") (plain_ascii within some) refl) e)
    (λ e some. plain_ascii (c ∷ text) some)

-- ---- infinities and NaNs

with_payload_some : (negative signaling : Bool) (payload : Option ℕ)
    → is_some (with_payload negative signaling payload) ≡ true → is_some payload ≡ true
with_payload_some negative signaling None h = h
with_payload_some negative signaling (Some payload) h = refl

named_ascii : (negative signaling : Bool) (text : List ℕ) → HasAscii text (named_nan negative signaling text)
named_ascii negative signaling text =
    let payload = payload_of (drop 3 text) in
    cond_both (is_nan_name (take 3 text)) (with_payload negative signaling payload) None
    (λ (o : Option TextMeaning). HasAscii text o)
    (λ name some.
    of_parts 3 text (same_as_either (take 3 text) (codes "nan") (codes "NaN") refl refl name)
    (payload_ascii (drop 3 text) (with_payload_some negative signaling payload some)))
    (λ e some. absurd (false≢true some))

-- a text that begins with a character of an ASCII test, and whose other characters are ASCII, is ASCII
begins_ascii : (test : ℕ → Bool) (text : List ℕ) → ((c : ℕ) → test c ≡ true → is_ascii c ≡ true)
    → begins test text ≡ true → IsAllAscii (drop 1 text) → IsAllAscii text
begins_ascii test [] ascii first rest = refl
begins_ascii test (c ∷ text) ascii first rest = with_first c text (ascii c first) rest

s_or_not : (negative : Bool) (body : List ℕ)
    → HasAscii body (cond (begins is_s body) (named_nan negative true (drop 1 body)) (named_nan negative false body))
s_or_not negative body =
    cond_both (begins is_s body) (named_nan negative true (drop 1 body)) (named_nan negative false body)
    (λ (o : Option TextMeaning). HasAscii body o)
    (λ s some.
    begins_ascii is_s body (λ c h. is_either c 115 83 refl refl h) s (named_ascii negative true (drop 1 body) some))
    (λ s some. named_ascii negative false body some)

nan_ascii : (mark : Mark) (body : List ℕ) → HasAscii body (nan_meaning mark body)
nan_ascii Unmarked body = s_or_not false body
nan_ascii Plus body = λ some. absurd (false≢true some)
nan_ascii Minus body = s_or_not true body

infinity_ascii : (mark : Mark) (body : List ℕ) → is_infinity mark body ≡ true → IsAllAscii body
infinity_ascii Unmarked body h = same_as_either body (codes "inf") (codes "INFINITY") refl refl h
infinity_ascii Plus body h = same_ascii body (codes "Inf") refl h
infinity_ascii Minus body h =
    ⊎_elim
    (λ (e : (same body (codes "Inf") || same body (codes "inf")) ≡ true).
    same_as_either body (codes "Inf") (codes "inf") refl refl e)
    (λ (e : same body (codes "INFINITY") ≡ true). same_ascii body (codes "INFINITY") refl e)
    (or_cases (same body (codes "Inf") || same body (codes "inf")) (same body (codes "INFINITY")) h)

special_body_ascii : (mark : Mark) (body : List ℕ) → HasAscii body (special_meaning mark body)
special_body_ascii mark body =
    cond_both (is_infinity mark body) (Some (infinity (is_minus mark))) (nan_meaning mark body)
    (λ (o : Option TextMeaning). HasAscii body o)
    (λ e some. infinity_ascii mark body e) (λ e some. nan_ascii mark body some)

special_ascii : (text : List ℕ) (meaning : TextMeaning) → special_of text ≡ Some meaning → IsAllAscii text
special_ascii text meaning h =
    after_mark_ascii text
    (special_body_ascii (mark_of text) (after_mark text) (ap (λ (o : Option TextMeaning). is_some o) h))

-- ---- hexadecimal numbers

either_spelled : (text one other : List ℕ) → IsAllAscii one → IsAllAscii other → (text ≡ one) ⊎ (text ≡ other)
    → IsAllAscii text
either_spelled text one other first second (inl e) = rw e first
either_spelled text one other first second (inr e) = rw e second

point_ascii : (point fraction : List ℕ) → (point ≡ codes ".") ⊎ ((point ≡ []) × (fraction ≡ []))
    → IsAllAscii point
point_ascii point fraction (inl e) = rw e refl
point_ascii point fraction (inr e) = rw e.0 refl

literal_ascii : (body : List ℕ) (h f : ℕ) (e : ℤ) → IsHexadecimal body h f e → IsAllAscii body
literal_ascii body h f e x =
    let digits = every-append is_ascii x.whole x.fraction
    (every_weaker is_hexadecimal is_ascii hexadecimal_ascii (x.whole ++ x.fraction) x.are_digits) in
    let exponent = after_mark_ascii x.exponent
    (every_weaker is_decimal is_ascii decimal_ascii (after_mark x.exponent) x.are_exponent_digits) in
    let prefix = either_spelled x.prefix (codes "0x") (codes "0X") refl refl x.is_prefix in
    let letter = either_spelled x.letter (codes "p") (codes "P") refl refl x.is_letter in
    let point = point_ascii x.point x.fraction x.is_point in
    rw x.spelled
    (append-every is_ascii x.prefix _ prefix
    (append-every is_ascii x.whole _ digits.0
    (append-every is_ascii x.point _ point
    (append-every is_ascii x.fraction _ digits.1 (append-every is_ascii x.letter x.exponent letter exponent)))))

-- a text with a meaning is ASCII
pub meaningful_ascii : (text : List ℕ) (meaning : TextMeaning) → Means text meaning → every is_ascii text ≡ true
meaningful_ascii text (infinity negative) means = special_ascii text (infinity negative) means
meaningful_ascii text (not_a_number negative signaling payload) means =
    special_ascii text (not_a_number negative signaling payload) means
meaningful_ascii text (hexadecimal negative h f e) means =
    after_mark_ascii text (literal_ascii (after_mark text) h f e means.1)

-- ---- decimals

exponent_ascii : (tail : List ℕ) (e : ℤ) → IsWrittenExponent tail e → IsAllAscii tail
exponent_ascii [] e h = refl
exponent_ascii (letter ∷ exponent) e h =
    with_first letter exponent (is_either letter 101 69 refl refl h.0)
    (after_mark_ascii exponent (every_weaker is_decimal is_ascii decimal_ascii (after_mark exponent) h.1))

decimal_text_ascii : (body : List ℕ) (digits : ℕ) (exponent : ℤ) → IsDecimalText body digits exponent
    → IsAllAscii body
decimal_text_ascii body digits exponent x =
    let all = every-append is_ascii x.whole x.fraction
    (every_weaker is_decimal is_ascii decimal_ascii (x.whole ++ x.fraction) x.are_digits) in
    rw x.spelled
    (append-every is_ascii x.whole _ all.0
    (append-every is_ascii x.point _ (point_ascii x.point x.fraction x.is_point)
    (append-every is_ascii x.fraction x.tail all.1 (exponent_ascii x.tail x.written x.is_written))))

-- a text that is read, as a decimal or otherwise, is ASCII
pub read_ascii : (f : Format) (mode : Round) (text : List ℕ) (value : Datum) (status : ℕ)
    → IsDecimalReading f mode text value status → every is_ascii text ≡ true
read_ascii f mode text value status (inl x) =
    after_mark_ascii text (decimal_text_ascii (after_mark text) x.digits x.exponent x.is_text)
read_ascii f mode text value status (inr x) = meaningful_ascii text x.meaning x.means
