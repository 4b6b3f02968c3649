-- A text without a fault has a meaning.
use Rattle.apfloat_model.specs.declared.parse_error.Fault.TheVariants.{EmptyText, LoneMark, NoLiteral, LonePrefix}
use Rattle.apfloat_model.specs.declared.parse_error.Fault.TheVariants.{SecondDot, WrongInSignificand, NoDigits}
use Rattle.apfloat_model.specs.declared.parse_error.Fault.TheVariants.{WrongInExponent, NoExponentDigits}
use Rattle.apfloat_model.specs.declared.marks.Mark.{Mark, TheVariants.Unmarked, TheVariants.Plus, TheVariants.Minus}
use Rattle.apfloat_model.specs.texts.Digits.{every, begins, run, after_run, is_empty, is_decimal, is_hexadecimal}
use Rattle.apfloat_model.specs.texts.Digits.{number}
use Rattle.apfloat_model.specs.texts.Specials.{TextMeaning, infinity, not_a_number, hexadecimal, mark_of, after_mark}
use Rattle.apfloat_model.specs.texts.Specials.{is_minus, is_infinity, is_s, payload_of, with_payload, is_nan_name}
use Rattle.apfloat_model.specs.texts.Specials.{named_nan, nan_meaning, special_meaning, special_of}
use Rattle.apfloat_model.specs.texts.Texts.{IsHexadecimal, Means, marked}
use Rattle.apfloat_model.specs.texts.Faults.{is_dot, is_p, is_digit_or_dot, significand_of, after_significand}
use Rattle.apfloat_model.specs.texts.Faults.{begins_literal, tail_fault, literal_fault, after_prefix_fault, fault_of}
use Rattle.apfloat_model.proofs.texts.OneMeaning.{digit_is_no_dot, significand_parts}
use Rattle.apfloat_model.proofs.general.ListLaws.{append-every, filter_none, regroup, split_run, run_passes, run_stops}
use Rattle.apfloat_model.proofs.general.{ListLaws.after_passes, ListLaws.some_length, Choices.left_none}
use Rattle.std.proofs.Common.{◌≡◌, ◌⊎◌, ℕ, ◌≤◌, true, false, not, cond, ◌&&◌, refl, sym, ap, ◌∙◌, inl, inr, ⊎_elim}
use Rattle.std.proofs.Common.{arith, List, [], ◌∷◌, ◌++◌, length, take, drop, filter, ltb, eqb, codes, Option, Some}
use Rattle.std.proofs.Common.{None, is_some, ℤ}
use Rattle.std.proofs.lemmas.Bool.{and_parts, and_from, or_cases, eqb-true, ltb-false, false≢true, cases_Bool}
use Rattle.std.proofs.lemmas.{Bool.cond_both, Bool.not-false, List.Elements.filter-append, Option.none-some}
use Rattle.std.specs.Bool.{⊤}
use mathlib.Core.Bool.{Bool}

-- ---- no special text is a hexadecimal one

abbrev NotHexadecimal : Option TextMeaning → Type 0
NotHexadecimal None = ⊤
NotHexadecimal (Some (infinity b)) = ⊤
NotHexadecimal (Some (not_a_number b s p)) = ⊤
NotHexadecimal (Some (hexadecimal b h f e)) = ⊥

-- each of the following: the meaning of a special text is not a hexadecimal number
payload_not : (negative signaling : Bool) (payload : Option ℕ)
    → NotHexadecimal (with_payload negative signaling payload)
payload_not negative signaling None = tt
payload_not negative signaling (Some payload) = tt

named_not : (negative signaling : Bool) (text : List ℕ) → NotHexadecimal (named_nan negative signaling text)
named_not negative signaling text =
    cond_both (is_nan_name (take 3 text)) (with_payload negative signaling (payload_of (drop 3 text))) None
    NotHexadecimal (λ e. payload_not negative signaling (payload_of (drop 3 text))) (λ e. tt)

nan_not : (mark : Mark) (body : List ℕ) → NotHexadecimal (nan_meaning mark body)
nan_not Unmarked body =
    cond_both (begins is_s body) (named_nan false true (drop 1 body)) (named_nan false false body) NotHexadecimal
    (λ e. named_not false true (drop 1 body)) (λ e. named_not false false body)
nan_not Plus body = tt
nan_not Minus body =
    cond_both (begins is_s body) (named_nan true true (drop 1 body)) (named_nan true false body) NotHexadecimal
    (λ e. named_not true true (drop 1 body)) (λ e. named_not true false body)

special_not : (mark : Mark) (body : List ℕ) → NotHexadecimal (special_meaning mark body)
special_not mark body =
    cond_both (is_infinity mark body) (Some (infinity (is_minus mark))) (nan_meaning mark body) NotHexadecimal
    (λ e. tt) (λ e. nan_not mark body)

-- a special text has the meaning of an infinity or a NaN
means_special : (text : List ℕ) (special : Option TextMeaning) → NotHexadecimal special → special_of text ≡ special
    → is_some special ≡ true → (meaning : TextMeaning) × Means text meaning
means_special text None n e s = absurd (false≢true s)
means_special text (Some (infinity b)) n e s = (infinity b, e)
means_special text (Some (not_a_number b g p)) n e s = (not_a_number b g p, e)
means_special text (Some (hexadecimal b h f x)) n e s = absurd n

-- ---- the significand

-- digits and dots that have no dot are digits
digits_without_dots : (xs : List ℕ) → every is_digit_or_dot xs ≡ true → filter is_dot xs ≡ []
    → every is_hexadecimal xs ≡ true
digits_without_dots [] h n = refl
digits_without_dots (c ∷ xs) h n =
    let p = and_parts (is_digit_or_dot c) (every is_digit_or_dot xs) h in
    go (cases_Bool (is_dot c)) p.0 (λ m. digits_without_dots xs p.1 m)
  where
    go : (is_dot c ≡ true) ⊎ (is_dot c ≡ false) → is_digit_or_dot c ≡ true
        → (filter is_dot xs ≡ [] → every is_hexadecimal xs ≡ true) → every is_hexadecimal (c ∷ xs) ≡ true
    go (inl e) d ih = absurd (false≢true (ap is_empty (rw e at n)))
    go (inr e) d ih =
        ⊎_elim
        (λ (x : is_hexadecimal c ≡ true). and_from (is_hexadecimal c) (every is_hexadecimal xs) x (ih (rw e at n)))
        (λ (x : is_dot c ≡ true). absurd (false≢true (sym e ∙ x))) (or_cases (is_hexadecimal c) (is_dot c) d)

record IsPointed (significand : List ℕ) : Type 0 where
  whole : List ℕ
  point : List ℕ
  fraction : List ℕ
  spelled : significand ≡ whole ++ (point ++ fraction)
  is_point : (point ≡ codes ".") ⊎ ((point ≡ []) × (fraction ≡ []))
  whole_digits : every is_hexadecimal whole ≡ true
  fraction_digits : every is_hexadecimal fraction ≡ true

-- after the only dot there is no other dot
short_tail : (c : ℕ) (xs : List ℕ) → is_dot c ≡ true → ltb 1 (length (filter is_dot (c ∷ xs))) ≡ false
    → filter is_dot xs ≡ []
short_tail c xs d h = go (filter is_dot xs) (rw d at h)
  where
    go : (ys : List ℕ) → ltb 1 (length (c ∷ ys)) ≡ false → ys ≡ []
    go [] g = refl
    go (y ∷ ys) g = absurd (omega (arith, ltb-false 1 (length (c ∷ y ∷ ys)) g))

-- a significand with at most one dot is digits, or digits, a dot and digits
pointed_by : (significand whole rest : List ℕ) → significand ≡ whole ++ rest → every is_hexadecimal whole ≡ true
    → every is_digit_or_dot rest ≡ true
    → begins is_hexadecimal rest ≡ false → ltb 1 (length (filter is_dot rest)) ≡ false → IsPointed significand
pointed_by significand whole [] e w p b d =
    record {
      whole = whole;
      point = [];
      fraction = [];
      spelled = e;
      is_point = inr (refl, refl);
      whole_digits = w;
      fraction_digits = refl;
    }
pointed_by significand whole (c ∷ fraction) e w p b d =
    let q = and_parts (is_digit_or_dot c) (every is_digit_or_dot fraction) p in
    let dot : is_dot c ≡ true = ⊎_elim (λ (x : is_hexadecimal c ≡ true). absurd (false≢true (sym b ∙ x)))
    (λ (x : is_dot c ≡ true). x) (or_cases (is_hexadecimal c) (is_dot c) q.0) in
    record {
      whole = whole;
      point = codes ".";
      fraction = fraction;
      spelled = rw (eqb-true c 46 dot) at e;
      is_point = inl refl;
      whole_digits = w;
      fraction_digits = digits_without_dots fraction q.1 (short_tail c fraction dot d);
    }

-- a significand with at most one dot is digits, that dot, and digits
pointed : (significand : List ℕ) → every is_digit_or_dot significand ≡ true
    → ltb 1 (length (filter is_dot significand)) ≡ false → IsPointed significand
pointed significand p d =
    let whole = run is_hexadecimal significand in
    let rest = after_run is_hexadecimal significand in
    let e = split_run is_hexadecimal significand in
    let w = run_passes is_hexadecimal significand in
    let f : filter is_dot significand ≡ filter is_dot rest = ap (filter is_dot) e ∙ filter-append is_dot whole rest
    ∙ ap (λ (t : List ℕ). t ++ filter is_dot rest) (filter_none is_hexadecimal is_dot digit_is_no_dot whole w) in
    pointed_by significand whole rest e w (after_passes is_hexadecimal is_digit_or_dot significand p)
    (run_stops is_hexadecimal significand) (rw f at d)

-- ---- the literal

record IsLetter (tail : List ℕ) : Type 0 where
  letter : List ℕ
  exponent : List ℕ
  spelled : tail ≡ letter ++ exponent
  is_letter : (letter ≡ codes "p") ⊎ (letter ≡ codes "P")
  digits : every is_decimal (after_mark exponent) ≡ true
  some_digit : 1 ≤ length (after_mark exponent)

-- a tail without a fault is a letter, and an exponent with digits
letter_of : (tail : List ℕ) → (not (is_empty tail) && not (begins is_p tail)) ≡ false → tail_fault tail ≡ None
    → IsLetter tail
letter_of [] b d = absurd (none-some _ (sym d))
letter_of (x ∷ exponent) b d =
    let every_one = left_none (not (every is_decimal (after_mark exponent))) WrongInExponent
    (cond (is_empty (after_mark exponent)) (Some NoExponentDigits) None) d in
    let some_one = left_none (is_empty (after_mark exponent)) NoExponentDigits None every_one.1 in
    record {
      letter = x ∷ [];
      exponent = exponent;
      spelled = refl;
      is_letter =
          ⊎_elim (λ (p : eqb x 112 ≡ true). inl (ap (λ (c : ℕ). c ∷ []) (eqb-true x 112 p)))
          (λ (p : eqb x 80 ≡ true). inr (ap (λ (c : ℕ). c ∷ []) (eqb-true x 80 p)))
          (or_cases (eqb x 112) (eqb x 80) (not-false (is_p x) b));
      digits = not-false (every is_decimal (after_mark exponent)) every_one.0;
      some_digit = some_length (after_mark exponent) some_one.0;
    }

pub record IsAnyHexadecimal (body : List ℕ) : Type 0 where
  pub h : ℕ
  pub f : ℕ
  pub e : ℤ
  pub is : IsHexadecimal body h f e

-- the parts, joined in this order, are the text
rejoined : (rest significand tail whole point fraction letter exponent : List ℕ) → rest ≡ significand ++ tail
    → significand ≡ whole ++ (point ++ fraction) → tail ≡ letter ++ exponent
    → rest ≡ whole ++ (point ++ (fraction ++ (letter ++ exponent)))
rejoined rest significand tail whole point fraction letter exponent a b c =
    rw (a, b, c) (sym (regroup whole point fraction (letter ++ exponent)))

-- if the text after the prefix has no fault, it is a hexadecimal number
pub literal_from : (body prefix rest : List ℕ) → body ≡ prefix ++ rest
    → (prefix ≡ codes "0x") ⊎ (prefix ≡ codes "0X") → after_prefix_fault rest ≡ None → IsAnyHexadecimal body
literal_from body prefix rest begun is_prefix h =
    let significand = significand_of rest in
    let tail = after_significand rest in
    let a = left_none (is_empty rest) LonePrefix (literal_fault significand tail) h in
    let b = left_none (ltb 1 (length (filter is_dot significand))) SecondDot
    (cond (not (is_empty tail) && not (begins is_p tail)) (Some WrongInSignificand)
    (cond (is_empty (filter is_hexadecimal significand)) (Some NoDigits) (tail_fault tail))) a.1 in
    let c = left_none (not (is_empty tail) && not (begins is_p tail)) WrongInSignificand
    (cond (is_empty (filter is_hexadecimal significand)) (Some NoDigits) (tail_fault tail)) b.1 in
    let d = left_none (is_empty (filter is_hexadecimal significand)) NoDigits (tail_fault tail) c.1 in
    let p = pointed significand (run_passes is_digit_or_dot rest) b.0 in
    let x = letter_of tail c.0 d.1 in
    let s = significand_parts p.whole p.point p.fraction p.is_point p.whole_digits p.fraction_digits in
    let digits : filter is_hexadecimal significand ≡ p.whole ++ p.fraction = ap (filter is_hexadecimal) p.spelled ∙
    s.digits in
    record {
      h = number 16 (p.whole ++ p.fraction);
      f = length p.fraction;
      e = marked (mark_of x.exponent) (number 10 (after_mark x.exponent));
      is = record {
        prefix = prefix;
        whole = p.whole;
        point = p.point;
        fraction = p.fraction;
        letter = x.letter;
        exponent = x.exponent;
        spelled = begun ∙ ap (λ (t : List ℕ). prefix ++ t)
            (rejoined rest significand tail p.whole p.point p.fraction x.letter x.exponent
            (split_run is_digit_or_dot rest) p.spelled x.spelled);
        is_prefix = is_prefix;
        is_point = p.is_point;
        is_letter = x.is_letter;
        are_digits = append-every is_hexadecimal p.whole p.fraction p.whole_digits p.fraction_digits;
        has_digits = some_length (p.whole ++ p.fraction) (sym (ap is_empty digits) ∙ d.0);
        are_exponent_digits = x.digits;
        has_exponent_digits = x.some_digit;
        h_is = refl;
        f_is = refl;
        e_is = refl;
      };
    }

-- ---- the text

-- a text that begins like a literal begins with one of the two prefixes
pub begun_of : (body : List ℕ) → begins_literal body ≡ true
    → (body ≡ codes "0x" ++ drop 2 body) ⊎ (body ≡ codes "0X" ++ drop 2 body)
begun_of [] h = absurd (false≢true h)
begun_of (c ∷ []) h =
    ⊎_elim (λ (p : (eqb c 48 && false) ≡ true). absurd (false≢true (and_parts (eqb c 48) false p).1))
    (λ (p : (eqb c 48 && false) ≡ true). absurd (false≢true (and_parts (eqb c 48) false p).1))
    (or_cases (eqb c 48 && false) (eqb c 48 && false) h)
begun_of (c ∷ d ∷ rest) h =
    ⊎_elim
    (λ (p : (eqb c 48 && (eqb d 120 && true)) ≡ true).
    let q = and_parts (eqb c 48) (eqb d 120 && true) p in
    let r = and_parts (eqb d 120) true q.1 in
    inl (rw (eqb-true c 48 q.0, eqb-true d 120 r.0) refl))
    (λ (p : (eqb c 48 && (eqb d 88 && true)) ≡ true).
    let q = and_parts (eqb c 48) (eqb d 88 && true) p in
    let r = and_parts (eqb d 88) true q.1 in
    inr (rw (eqb-true c 48 q.0, eqb-true d 88 r.0) refl))
    (or_cases (eqb c 48 && (eqb d 120 && true)) (eqb c 48 && (eqb d 88 && true)) h)

-- a text whose body is a hexadecimal number has a meaning
means_hexadecimal : (text : List ℕ) → IsAnyHexadecimal (after_mark text) → (meaning : TextMeaning) × Means text meaning
means_hexadecimal text x = (hexadecimal (is_minus (mark_of text)) x.h x.f x.e, (refl, x.is))

-- a text that begins like a literal and has no fault has a meaning
body_means : (text body : List ℕ) → after_mark text ≡ body → begins_literal body ≡ true
    → after_prefix_fault (drop 2 body) ≡ None → (meaning : TextMeaning) × Means text meaning
body_means text body p b h =
    ⊎_elim
    (λ (q : body ≡ codes "0x" ++ drop 2 body).
    means_hexadecimal text (literal_from (after_mark text) (codes "0x") (drop 2 body) (p ∙ q) (inl refl) h))
    (λ (q : body ≡ codes "0X" ++ drop 2 body).
    means_hexadecimal text (literal_from (after_mark text) (codes "0X") (drop 2 body) (p ∙ q) (inr refl) h))
    (begun_of body b)

-- a nonempty text without a fault has a meaning
text_means : (text : List ℕ) → is_empty text ≡ false → fault_of text ≡ None
    → (meaning : TextMeaning) × Means text meaning
text_means text n h =
    let body = after_mark text in
    let special = special_of text in
    let last = cond (not (begins_literal body)) (Some NoLiteral) (after_prefix_fault (drop 2 body)) in
    let a = left_none (is_empty text) EmptyText
    (cond (is_empty body) (Some LoneMark) (cond (is_some special) None last)) h in
    let b = left_none (is_empty body) LoneMark (cond (is_some special) None last) a.1 in
    ⊎_elim
    (λ (s : is_some special ≡ true). means_special text special (special_not (mark_of text) body) refl s)
    (λ (s : is_some special ≡ false).
    let d = left_none (not (begins_literal body)) NoLiteral (after_prefix_fault (drop 2 body)) (rw s at b.1) in
    body_means text body refl (not-false (begins_literal body) d.0) d.1)
    (cases_Bool (is_some special))

-- each text without a fault has a meaning
pub no_fault_meaning : (text : List ℕ) → fault_of text ≡ None → (meaning : TextMeaning) × Means text meaning
no_fault_meaning [] h = absurd (none-some _ (sym h))
no_fault_meaning (c ∷ text) h = text_means (c ∷ text) refl h
