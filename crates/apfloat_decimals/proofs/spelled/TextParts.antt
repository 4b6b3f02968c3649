-- A decimal text has only one division into its parts, so it spells one number and has no fault.
use Rattle.std.proofs.Common.{◌≡◌, ◌⊎◌, ℕ, ◌≤◌, ◌<◌, Bool, true, false, not, ◌&&◌, ◌||◌, cond, refl, sym, ap, ◌∙◌}
use Rattle.std.proofs.Common.{subst, inl, inr, ⊎_elim, arith, List, [], ◌∷◌, ◌++◌, length, take, drop, codes, Option}
use Rattle.std.proofs.Common.{Some, None, is_some, ℤ, pos, ◌-ℤ◌, eqb, leb}
use Rattle.std.proofs.lemmas.{Bool.or_cases, Bool.cond-false, Option.none-some}
use Rattle.std.proofs.lemmas.Bool.{cases_Bool, ne_eqb, eqb-true, false≢true, leb-true, and_parts, and_left, or_from}
use Rattle.apfloat_model.specs.declared.marks.Mark.{Mark, TheVariants.Unmarked, TheVariants.Plus, TheVariants.Minus}
use Rattle.apfloat_model.specs.declared.parse_error.Fault.{Fault, TheVariants.NoLiteral, TheVariants.WrongInSignificand}
use Rattle.apfloat_model.specs.texts.{Literals.exponent_number, Specials.infinity, Specials.mark_of}
use Rattle.apfloat_model.specs.texts.Digits.{same, every, begins, is_empty, run, after_run, is_decimal, number}
use Rattle.apfloat_model.specs.texts.Faults.{is_dot, begins_literal, fault_of}
use Rattle.apfloat_model.specs.texts.Specials.{after_mark, is_minus, is_infinity, is_s, is_nan_name, with_payload}
use Rattle.apfloat_model.specs.texts.Specials.{payload_of, named_nan, nan_meaning, special_of, special_meaning}
use Rattle.apfloat_model.proofs.general.ListLaws.{every-append, run_through, after_run_through, not_empty}
use Rattle.apfloat_conversions.specs.DecimalTails.{is_e, written_fault}
use Rattle.apfloat_decimals.specs.DecimalTexts.{IsWrittenExponent, IsDecimalText, fraction_in, after_fraction}
use Rattle.apfloat_decimals.specs.DecimalTexts.{all_digits, body_fault, decimal_fault_of}
use Rattle.apfloat_decimals.specs.Parsing.{plain_fault_of}

-- ---- the exponent

-- the start and the number of a written exponent, which has no fault
record IsTail (tail : List ℕ) (written : ℤ) : Type 0 where
  no_digit : begins is_decimal tail ≡ false
  no_dot : begins is_dot tail ≡ false
  begins_e : (not (is_empty tail) && not (begins is_e tail)) ≡ false
  faultless : written_fault tail ≡ None
  number_is : written ≡ exponent_number (drop 1 tail)

-- the letter of an exponent is neither a digit nor a dot
letter_no_digit : (c : ℕ) → is_e c ≡ true → (is_decimal c ≡ false) × (is_dot c ≡ false)
letter_no_digit c h =
    ⊎_elim
    (λ (e : eqb c 101 ≡ true). let k : c ≡ 101 = eqb-true c 101 e in rw k (refl, refl))
    (λ (e : eqb c 69 ≡ true). let k : c ≡ 69 = eqb-true c 69 e in rw k (refl, refl))
    (or_cases (eqb c 101) (eqb c 69) h)

tail_of : (tail : List ℕ) (written : ℤ) → IsWrittenExponent tail written → IsTail tail written
tail_of [] written h = record { no_digit = refl; no_dot = refl; begins_e = refl; faultless = refl; number_is = h }
tail_of (letter ∷ exponent) written h =
    let kind = letter_no_digit letter h.0 in
    record {
      no_digit = kind.0;
      no_dot = kind.1;
      begins_e = rw h.0 refl;
      faultless = rw (h.1, not_empty (after_mark exponent) h.2) refl;
      number_is = h.3;
    }

-- ---- the parts

record IsParted (body whole fraction tail : List ℕ) : Type 0 where
  whole_is : run is_decimal body ≡ whole
  fraction_is : fraction_in (after_run is_decimal body) ≡ fraction
  tail_is : after_fraction (after_run is_decimal body) ≡ tail

parted_at_dot : (whole fraction tail : List ℕ) → every is_decimal whole ≡ true → every is_decimal fraction ≡ true
    → begins is_decimal tail ≡ false → IsParted (whole ++ (46 ∷ (fraction ++ tail))) whole fraction tail
parted_at_dot whole fraction tail w f t =
    let rest : after_run is_decimal (whole ++ (46 ∷ (fraction ++ tail))) ≡ 46 ∷ (fraction ++ tail) =
    after_run_through is_decimal whole (46 ∷ (fraction ++ tail)) w refl in
    record {
      whole_is = run_through is_decimal whole (46 ∷ (fraction ++ tail)) w refl;
      fraction_is = ap fraction_in rest ∙ run_through is_decimal fraction tail f t;
      tail_is = ap after_fraction rest ∙ after_run_through is_decimal fraction tail f t;
    }

parted_at_tail : (whole tail : List ℕ) → every is_decimal whole ≡ true → begins is_decimal tail ≡ false
    → begins is_dot tail ≡ false → IsParted (whole ++ tail) whole [] tail
parted_at_tail whole tail w t d =
    let rest : after_run is_decimal (whole ++ tail) ≡ tail = after_run_through is_decimal whole tail w t in
    record {
      whole_is = run_through is_decimal whole tail w t;
      fraction_is = ap fraction_in rest ∙ rw d refl;
      tail_is = ap after_fraction rest ∙ rw d refl;
    }

parts_of : (whole point fraction tail : List ℕ) → (point ≡ codes ".") ⊎ ((point ≡ []) × (fraction ≡ []))
    → every is_decimal whole ≡ true → every is_decimal fraction ≡ true → begins is_decimal tail ≡ false
    → begins is_dot tail ≡ false → IsParted (whole ++ (point ++ (fraction ++ tail))) whole fraction tail
parts_of whole point fraction tail (inl dot) w f t d = rw dot (parted_at_dot whole fraction tail w f t)
parts_of whole point fraction tail (inr none) w f t d = rw (none.0, none.1) (parted_at_tail whole tail w t d)

-- ---- the number

-- the number of a decimal text from its parts; the text has no fault
pub record IsOnlyText (body : List ℕ) (digits : ℕ) (exponent : ℤ) : Type 0 where
  pub digits_are : digits ≡ number 10 (all_digits body)
  pub exponent_is : exponent ≡ exponent_number (drop 1 (after_fraction (after_run is_decimal body)))
      -ℤ pos (length (fraction_in (after_run is_decimal body)))
  pub faultless : body_fault body ≡ None
  pub some : is_empty body ≡ false

pub only_text : (body : List ℕ) (digits : ℕ) (exponent : ℤ) → IsDecimalText body digits exponent
    → IsOnlyText body digits exponent
only_text body digits exponent x =
    let each = every-append is_decimal x.whole x.fraction x.are_digits in
    let tail = tail_of x.tail x.written x.is_written in
    let p = parts_of x.whole x.point x.fraction x.tail x.is_point each.0 each.1 tail.no_digit tail.no_dot in
    let q : IsParted body x.whole x.fraction x.tail =
    subst (λ (t : List ℕ). IsParted t x.whole x.fraction x.tail) (sym x.spelled) p in
    let all : all_digits body ≡ x.whole ++ x.fraction =
    ap (λ (t : List ℕ). t ++ fraction_in (after_run is_decimal body)) q.whole_is
    ∙ ap (λ (t : List ℕ). x.whole ++ t) q.fraction_is in
    let some : is_empty (x.whole ++ x.fraction) ≡ false = not_empty (x.whole ++ x.fraction) x.has_digits in
    record {
      digits_are = x.digits_are ∙ ap (λ (t : List ℕ). number 10 t) (sym all);
      exponent_is = x.exponent_is ∙ ap (λ (z : ℤ). z -ℤ pos (length x.fraction)) tail.number_is
          ∙ sym (rw (q.tail_is, q.fraction_is) refl);
      faultless = rw (all, q.tail_is, some, tail.no_dot, tail.begins_e) tail.faultless;
      some = filled body x.whole x.point x.fraction x.tail x.spelled x.has_digits;
    }
  where
    filled : (body whole point fraction tail : List ℕ) → body ≡ whole ++ (point ++ (fraction ++ tail))
        → 1 ≤ length (whole ++ fraction) → is_empty body ≡ false
    filled body (c ∷ whole) point fraction tail e h = ap is_empty e
    filled body [] (c ∷ point) fraction tail e h = ap is_empty e
    filled body [] [] (c ∷ fraction) tail e h = ap is_empty e
    filled body [] [] [] tail e h = absurd (omega (arith, h))

-- ---- a decimal text is neither special nor hexadecimal

-- a text with the prefix of a hexadecimal number has a fault as a decimal text
literal_faulty : (body : List ℕ) → begins_literal body ≡ true → body_fault body ≡ None → ⊥
literal_faulty [] h f = false≢true h
literal_faulty (c ∷ []) h f =
    ⊎_elim (λ (e : (eqb c 48 && false) ≡ true). false≢true (and_parts (eqb c 48) false e).1)
    (λ (e : (eqb c 48 && false) ≡ true). false≢true (and_parts (eqb c 48) false e).1)
    (or_cases (eqb c 48 && false) (eqb c 48 && false) h)
literal_faulty (c ∷ d ∷ rest) h f =
    ⊎_elim
    (λ (e : (eqb c 48 && (eqb d 120 && true)) ≡ true).
    let p = and_parts (eqb c 48) (eqb d 120 && true) e in
    faulty 120 (eqb-true c 48 p.0) (eqb-true d 120 (and_parts (eqb d 120) true p.1).0) refl)
    (λ (e : (eqb c 48 && (eqb d 88 && true)) ≡ true).
    let p = and_parts (eqb c 48) (eqb d 88 && true) e in
    faulty 88 (eqb-true c 48 p.0) (eqb-true d 88 (and_parts (eqb d 88) true p.1).0) refl)
    (or_cases (eqb c 48 && (eqb d 120 && true)) (eqb c 48 && (eqb d 88 && true)) h)
  where
    faulty : (x : ℕ) → c ≡ 48 → d ≡ x → body_fault (48 ∷ x ∷ rest) ≡ Some WrongInSignificand → ⊥
    faulty x e k w = none-some WrongInSignificand (sym (rw (e, k) at f) ∙ w)

no_literal : (body : List ℕ) → body_fault body ≡ None → begins_literal body ≡ false
no_literal body f =
    ⊎_elim (λ (h : begins_literal body ≡ true). absurd (literal_faulty body h f))
    (λ (h : begins_literal body ≡ false). h) (cases_Bool (begins_literal body))

-- texts whose first characters differ are different
differs : (c k : ℕ) (rest word : List ℕ) → c ≤ 57 → 57 < k → same (c ∷ rest) (k ∷ word) ≡ false
differs c k rest word low high = and_left (eqb c k) (same rest word) (ne_eqb c k (λ e. omega arith))

-- no special text begins with a dot or a digit
no_infinity : (mark : Mark) (c : ℕ) (rest : List ℕ) → c ≤ 57 → is_infinity mark (c ∷ rest) ≡ false
no_infinity Unmarked c rest l =
    or_from (same (c ∷ rest) (codes "inf")) (same (c ∷ rest) (codes "INFINITY"))
    (differs c 105 rest (codes "nf") l (omega arith)) (differs c 73 rest (codes "NFINITY") l (omega arith))
no_infinity Plus c rest l = differs c 73 rest (codes "nf") l (omega arith)
no_infinity Minus c rest l =
    or_from (same (c ∷ rest) (codes "Inf") || same (c ∷ rest) (codes "inf")) (same (c ∷ rest) (codes "INFINITY"))
    (or_from (same (c ∷ rest) (codes "Inf")) (same (c ∷ rest) (codes "inf"))
    (differs c 73 rest (codes "nf") l (omega arith)) (differs c 105 rest (codes "nf") l (omega arith)))
    (differs c 73 rest (codes "NFINITY") l (omega arith))

no_named_nan : (negative : Bool) (c : ℕ) (rest : List ℕ) → c ≤ 57 → named_nan negative false (c ∷ rest) ≡ None
no_named_nan negative c rest l =
    cond-false (is_nan_name (take 3 (c ∷ rest))) (with_payload negative false (payload_of (drop 3 (c ∷ rest)))) None
    (or_from (same (c ∷ take 2 rest) (codes "nan")) (same (c ∷ take 2 rest) (codes "NaN"))
    (differs c 110 (take 2 rest) (codes "an") l (omega arith))
    (differs c 78 (take 2 rest) (codes "aN") l (omega arith)))

no_signaling : (c : ℕ) → c ≤ 57 → is_s c ≡ false
no_signaling c l = or_from (eqb c 115) (eqb c 83) (ne_eqb c 115 (λ e. omega arith)) (ne_eqb c 83 (λ e. omega arith))

no_nan : (mark : Mark) (c : ℕ) (rest : List ℕ) → c ≤ 57 → nan_meaning mark (c ∷ rest) ≡ None
no_nan Unmarked c rest l =
    cond-false (is_s c) (named_nan false true rest) (named_nan false false (c ∷ rest)) (no_signaling c l)
    ∙ no_named_nan false c rest l
no_nan Plus c rest l = refl
no_nan Minus c rest l =
    cond-false (is_s c) (named_nan true true rest) (named_nan true false (c ∷ rest)) (no_signaling c l)
    ∙ no_named_nan true c rest l

no_special : (mark : Mark) (c : ℕ) (rest : List ℕ) → c ≤ 57 → special_meaning mark (c ∷ rest) ≡ None
no_special mark c rest l =
    cond-false (is_infinity mark (c ∷ rest)) (Some (infinity (is_minus mark))) (nan_meaning mark (c ∷ rest))
    (no_infinity mark c rest l) ∙ no_nan mark c rest l

-- a decimal text is not special: it begins with a dot or a digit
no_special_text : (mark : Mark) (body whole point fraction tail : List ℕ)
    → body ≡ whole ++ (point ++ (fraction ++ tail)) → (point ≡ codes ".") ⊎ ((point ≡ []) × (fraction ≡ []))
    → every is_decimal (whole ++ fraction) ≡ true → 1 ≤ length (whole ++ fraction) → special_meaning mark body ≡ None
no_special_text mark body (c ∷ whole) point fraction tail e p h l =
    let digit = (and_parts (is_decimal c) (every is_decimal (whole ++ fraction)) h).0 in
    rw e (no_special mark c (whole ++ (point ++ (fraction ++ tail)))
    (leb-true c 57 (and_parts (leb 48 c) (leb c 57) digit).1))
no_special_text mark body [] point fraction tail e (inl dot) h l =
    rw (e, dot) (no_special mark 46 (fraction ++ tail) (omega arith))
no_special_text mark body [] point fraction tail e (inr none) h l =
    let z : length fraction ≡ 0 = ap (λ (t : List ℕ). length t) none.1 in
    absurd (omega (arith, l, z))

-- a decimal text has no other meaning
pub no_other_meaning : (text : List ℕ) (digits : ℕ) (exponent : ℤ)
    → IsDecimalText (after_mark text) digits exponent → fault_of text ≡ Some NoLiteral
no_other_meaning [] digits exponent x = absurd (false≢true (sym (only_text [] digits exponent x).some))
no_other_meaning (c ∷ text) digits exponent x =
    let body = after_mark (c ∷ text) in
    let only = only_text body digits exponent x in
    let none : special_of (c ∷ text) ≡ None = no_special_text (mark_of (c ∷ text))
    body x.whole x.point x.fraction x.tail x.spelled x.is_point x.are_digits x.has_digits in
    let special : is_some (special_of (c ∷ text)) ≡ false = ap is_some none in
    rw (only.some, special, no_literal body only.faultless) refl

-- a decimal text has no fault
pub no_fault_of : (text : List ℕ) (digits : ℕ) (exponent : ℤ) → IsDecimalText (after_mark text) digits exponent
    → decimal_fault_of text ≡ None
no_fault_of [] digits exponent x = absurd (false≢true (sym (only_text [] digits exponent x).some))
no_fault_of (c ∷ text) digits exponent x =
    let only = only_text (after_mark (c ∷ text)) digits exponent x in
    rw (only.some, no_literal (after_mark (c ∷ text)) only.faultless, only.faultless)
    (cond_same (is_some (special_of (c ∷ text))) None)
  where
    cond_same : (b : Bool) (o : Option Fault) → cond b o o ≡ o
    cond_same true o = refl
    cond_same false o = refl

pub no_plain_fault : (text : List ℕ) (digits : ℕ) (exponent : ℤ)
    → IsDecimalText (after_mark text) digits exponent → plain_fault_of text ≡ None
no_plain_fault [] digits exponent x = absurd (false≢true (sym (only_text [] digits exponent x).some))
no_plain_fault (c ∷ text) digits exponent x =
    let only = only_text (after_mark (c ∷ text)) digits exponent x in
    rw only.some only.faultless
