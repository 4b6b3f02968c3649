-- A text has at most one meaning, and no fault if it has one.
use Rattle.apfloat_model.specs.declared.parse_error.Fault.{Fault}
use Rattle.apfloat_model.specs.declared.parse_error.Fault.TheVariants.{EmptyText, LoneMark, NoLiteral}
use Rattle.apfloat_model.specs.declared.marks.Mark.{Mark, TheVariants.Unmarked, TheVariants.Plus, TheVariants.Minus}
use Rattle.apfloat_model.specs.texts.Digits.{every, after_run, is_empty, is_decimal, is_hexadecimal, number}
use Rattle.apfloat_model.specs.texts.Specials.{TextMeaning, infinity, not_a_number, hexadecimal, mark_of, after_mark}
use Rattle.apfloat_model.specs.texts.Specials.{special_meaning, special_of}
use Rattle.apfloat_model.specs.texts.Literals.{digits_number, places_after_dot, exponent_text, exponent_number}
use Rattle.apfloat_model.specs.texts.Texts.{IsHexadecimal, Means, marked}
use Rattle.apfloat_model.specs.texts.Faults.{is_dot, is_p, is_digit_or_dot, begins_literal, exponent_fault}
use Rattle.apfloat_model.specs.texts.Faults.{after_prefix_fault, fault_of}
use Rattle.apfloat_model.proofs.general.ListLaws.{every-append, append-every, every_weaker, run_through}
use Rattle.apfloat_model.proofs.general.ListLaws.{after_run_through, filter_all, filter_none, regroup, not_empty}
use Rattle.apfloat_model.proofs.general.ListLaws.{not_empty_through}
use Rattle.std.proofs.Common.{◌≡◌, ◌⊎◌, ℕ, ◌≤◌, true, false, not, cond, refl, sym, ap, ◌∙◌, inl, inr, List, [], ◌∷◌}
use Rattle.std.proofs.Common.{◌++◌, length, drop, filter, ltb, codes, Option, Some, None, is_some, ℤ}
use Rattle.std.proofs.lemmas.Bool.{ne_eqb, false≢true, or_left}
use Rattle.std.proofs.lemmas.{List.Elements.filter-append, Option.none-some, Option.same_Some}
use mathlib.Core.Bool.{Bool}

-- ---- digits

-- a hexadecimal digit is not a dot
pub digit_is_no_dot : (c : ℕ) → is_hexadecimal c ≡ true → is_dot c ≡ false
digit_is_no_dot c h = ne_eqb c 46 (λ e. false≢true (rw e at h))

-- a hexadecimal digit may occur in a significand
digit_is_digit_or_dot : (c : ℕ) → is_hexadecimal c ≡ true → is_digit_or_dot c ≡ true
digit_is_digit_or_dot c h = or_left (is_hexadecimal c) (is_dot c) h

-- ---- the parts of a literal

-- the parts form a significand: its characters, digits, dots and places after the dot follow from them
pub record IsSignificand (whole point fraction : List ℕ) : Type 0 where
  pub passes : every is_digit_or_dot (whole ++ (point ++ fraction)) ≡ true
  pub digits : filter is_hexadecimal (whole ++ (point ++ fraction)) ≡ whole ++ fraction
  pub dots : filter is_dot (whole ++ (point ++ fraction)) ≡ point
  pub places : length (drop 1 (after_run is_hexadecimal (whole ++ (point ++ fraction)))) ≡ length fraction

-- digits, at most one dot, and digits form a significand
pub significand_parts : (whole point fraction : List ℕ) → (point ≡ codes ".") ⊎ ((point ≡ []) × (fraction ≡ []))
    → every is_hexadecimal whole ≡ true → every is_hexadecimal fraction ≡ true → IsSignificand whole point fraction
significand_parts whole point fraction (inl e) w f =
    let l = every_weaker is_hexadecimal is_digit_or_dot digit_is_digit_or_dot in
    rw e (record {
      passes = append-every is_digit_or_dot whole (46 ∷ fraction) (l whole w) (l fraction f);
      digits = rw (filter-append is_hexadecimal whole (46 ∷ fraction), filter_all is_hexadecimal whole w)
          (ap (λ (t : List ℕ). whole ++ t) (filter_all is_hexadecimal fraction f));
      dots = rw (
        filter-append is_dot whole (46 ∷ fraction),
        filter_none is_hexadecimal is_dot digit_is_no_dot whole w,
      )
          (ap (λ (t : List ℕ). 46 ∷ t) (filter_none is_hexadecimal is_dot digit_is_no_dot fraction f));
      places = rw (after_run_through is_hexadecimal whole (46 ∷ fraction) w refl) refl;
    })
significand_parts whole point fraction (inr e) w f =
    let l = every_weaker is_hexadecimal is_digit_or_dot digit_is_digit_or_dot in
    rw (e.0, e.1) (record {
      passes = append-every is_digit_or_dot whole [] (l whole w) refl;
      digits = rw (filter-append is_hexadecimal whole [], filter_all is_hexadecimal whole w) refl;
      dots = rw (filter-append is_dot whole [], filter_none is_hexadecimal is_dot digit_is_no_dot whole w) refl;
      places = rw (after_run_through is_hexadecimal whole [] w refl) refl;
    })

-- a significand of these parts has no second dot
point_short : (point fraction : List ℕ) → (point ≡ codes ".") ⊎ ((point ≡ []) × (fraction ≡ []))
    → ltb 1 (length point) ≡ false
point_short point fraction (inl e) = rw e refl
point_short point fraction (inr e) = rw e.0 refl

-- the text after the prefix has no fault, and has these digits, places and exponent
pub record IsLiteral (rest : List ℕ) (h f : ℕ) (e : ℤ) : Type 0 where
  pub h_is : h ≡ digits_number rest
  pub f_is : f ≡ places_after_dot rest
  pub e_is : e ≡ exponent_number (exponent_text rest)
  pub no_fault : after_prefix_fault rest ≡ None

-- an exponent: a mark or none, and at least one digit
record IsExponent (exponent : List ℕ) : Type 0 where
  digits : every is_decimal (after_mark exponent) ≡ true
  some_digit : 1 ≤ length (after_mark exponent)

-- an exponent of a mark or none and at least one digit has no fault
no_exponent_fault : (exponent : List ℕ) → IsExponent exponent → exponent_fault (after_mark exponent) ≡ None
no_exponent_fault exponent x = rw (x.digits, not_empty (after_mark exponent) x.some_digit) refl

-- reading a literal gives its parts back, with the exponent after a p
literal_parts : (whole point fraction exponent : List ℕ) (c : ℕ) → is_p c ≡ true → is_digit_or_dot c ≡ false
    → (point ≡ codes ".") ⊎ ((point ≡ []) × (fraction ≡ [])) → every is_hexadecimal (whole ++ fraction) ≡ true
    → 1 ≤ length (whole ++ fraction)
    → IsExponent exponent
    → IsLiteral (whole ++ (point ++ (fraction ++ (c ∷ exponent)))) (number 16 (whole ++ fraction)) (length fraction)
    (marked (mark_of exponent) (number 10 (after_mark exponent)))
literal_parts whole point fraction exponent c letter stops is_point digits some x =
    let w = every-append is_hexadecimal whole fraction digits in
    let s = significand_parts whole point fraction is_point w.0 w.1 in
    let a = run_through is_digit_or_dot (whole ++ (point ++ fraction)) (c ∷ exponent) s.passes stops in
    let b = after_run_through is_digit_or_dot (whole ++ (point ++ fraction)) (c ∷ exponent) s.passes stops in
    rw (regroup whole point fraction (c ∷ exponent)) (record {
      h_is = rw (a, s.digits) refl;
      f_is = rw (a, s.places) refl;
      e_is = rw b refl;
      no_fault = rw (
        not_empty_through (whole ++ (point ++ fraction)) c exponent,
        a,
        b,
        s.dots,
        point_short point fraction is_point,
        letter,
        s.digits,
        not_empty (whole ++ fraction) some,
      )
          (no_exponent_fault exponent x);
    })

-- reading a literal gives its parts back, with either letter before the exponent
literal_with : (whole point fraction letter exponent : List ℕ) → (letter ≡ codes "p") ⊎ (letter ≡ codes "P")
    → (point ≡ codes ".") ⊎ ((point ≡ []) × (fraction ≡ [])) → every is_hexadecimal (whole ++ fraction) ≡ true
    → 1 ≤ length (whole ++ fraction)
    → IsExponent exponent
    → IsLiteral (whole ++ (point ++ (fraction ++ (letter ++ exponent)))) (number 16 (whole ++ fraction))
    (length fraction) (marked (mark_of exponent) (number 10 (after_mark exponent)))
literal_with whole point fraction letter exponent (inl p) is_point digits some x =
    rw p (literal_parts whole point fraction exponent 112 refl refl is_point digits some x)
literal_with whole point fraction letter exponent (inr p) is_point digits some x =
    rw p (literal_parts whole point fraction exponent 80 refl refl is_point digits some x)

-- a literal stays a literal if its numbers are replaced by equal ones
same_literal : (rest : List ℕ) (h f h2 f2 : ℕ) (e e2 : ℤ) → h2 ≡ h → f2 ≡ f → e2 ≡ e → IsLiteral rest h f e
    → IsLiteral rest h2 f2 e2
same_literal rest h f h2 f2 e e2 p q r l = rw (p, q, r) l

-- a body that begins with a prefix, with its characters spelled out
begun_with : (body prefix rest : List ℕ) → (prefix ≡ codes "0x") ⊎ (prefix ≡ codes "0X") → body ≡ prefix ++ rest
    → (body ≡ 48 ∷ 120 ∷ rest) ⊎ (body ≡ 48 ∷ 88 ∷ rest)
begun_with body prefix rest (inl p) e = inl (rw p at e)
begun_with body prefix rest (inr p) e = inr (rw p at e)

-- a body is a prefix and a literal with these numbers
record IsBody (body : List ℕ) (h f : ℕ) (e : ℤ) : Type 0 where
  rest : List ℕ
  begun : (body ≡ 48 ∷ 120 ∷ rest) ⊎ (body ≡ 48 ∷ 88 ∷ rest)
  literal : IsLiteral rest h f e

-- the body of a hexadecimal number is a prefix and a literal with its numbers
body_of : (body : List ℕ) (h f : ℕ) (e : ℤ) → IsHexadecimal body h f e → IsBody body h f e
body_of body h f e x =
    record {
      rest = x.whole ++ (x.point ++ (x.fraction ++ (x.letter ++ x.exponent)));
      begun = begun_with body x.prefix (x.whole ++ (x.point ++ (x.fraction ++ (x.letter ++ x.exponent))))
          x.is_prefix x.spelled;
      literal = same_literal (x.whole ++ (x.point ++ (x.fraction ++ (x.letter ++ x.exponent))))
          (number 16 (x.whole ++ x.fraction)) (length x.fraction) h f
          (marked (mark_of x.exponent) (number 10 (after_mark x.exponent))) e x.h_is x.f_is x.e_is
          (literal_with x.whole x.point x.fraction x.letter x.exponent x.is_letter x.is_point x.are_digits
          x.has_digits
          (record { digits = x.are_exponent_digits; some_digit = x.has_exponent_digits }));
    }

-- ---- the fault of a text, from its mark and body

abbrev pub fault_by : Bool → Mark → List ℕ → Option Fault
fault_by empty mark body =
    cond empty (Some EmptyText) (cond (is_empty body) (Some LoneMark) (cond (is_some (special_meaning mark body)) None
    (cond (not (begins_literal body)) (Some NoLiteral) (after_prefix_fault (drop 2 body)))))

-- the fault of a text, from its mark and what follows it
fault_at : (text body : List ℕ) → after_mark text ≡ body → is_empty body ≡ false
    → fault_of text ≡ fault_by false (mark_of text) body
fault_at [] body p h = absurd (false≢true (sym (rw (← p) at h)))
fault_at (c ∷ text) body p h = ap (λ (b : List ℕ). fault_by false (mark_of (c ∷ text)) b) p

-- a body that begins with a 0 is not special
no_special : (mark : Mark) (d : ℕ) (rest : List ℕ) → special_meaning mark (48 ∷ d ∷ rest) ≡ None
no_special Unmarked d rest = refl
no_special Plus d rest = refl
no_special Minus d rest = refl

-- after the prefix `0x`, the fault is that of the literal
fault_small : (mark : Mark) (rest : List ℕ) → fault_by false mark (48 ∷ 120 ∷ rest) ≡ after_prefix_fault rest
fault_small Unmarked rest = refl
fault_small Plus rest = refl
fault_small Minus rest = refl

-- after the prefix `0X`, the fault is that of the literal
fault_capital : (mark : Mark) (rest : List ℕ) → fault_by false mark (48 ∷ 88 ∷ rest) ≡ after_prefix_fault rest
fault_capital Unmarked rest = refl
fault_capital Plus rest = refl
fault_capital Minus rest = refl

-- a text with a prefix has the fault of its literal
begun_fault : (text rest : List ℕ) → (after_mark text ≡ 48 ∷ 120 ∷ rest) ⊎ (after_mark text ≡ 48 ∷ 88 ∷ rest)
    → fault_of text ≡ after_prefix_fault rest
begun_fault text rest (inl p) = fault_at text (48 ∷ 120 ∷ rest) p refl ∙ fault_small (mark_of text) rest
begun_fault text rest (inr p) = fault_at text (48 ∷ 88 ∷ rest) p refl ∙ fault_capital (mark_of text) rest

-- a text with a prefix is not special
begun_special : (text rest : List ℕ) → (after_mark text ≡ 48 ∷ 120 ∷ rest) ⊎ (after_mark text ≡ 48 ∷ 88 ∷ rest)
    → special_of text ≡ None
begun_special text rest (inl p) = ap (λ (b : List ℕ). special_meaning (mark_of text) b) p ∙
    no_special (mark_of text) 120 rest
begun_special text rest (inr p) = ap (λ (b : List ℕ). special_meaning (mark_of text) b) p ∙
    no_special (mark_of text) 88 rest

-- a mark alone is not special
no_special_alone : (mark : Mark) → special_meaning mark [] ≡ None
no_special_alone Unmarked = refl
no_special_alone Plus = refl
no_special_alone Minus = refl

-- a special body has no fault
special_by : (mark : Mark) (body : List ℕ) (meaning : TextMeaning) → special_meaning mark body ≡ Some meaning
    → fault_by false mark body ≡ None
special_by mark [] meaning h = absurd (none-some _ (sym (no_special_alone mark) ∙ h))
special_by mark (c ∷ body) meaning h = rw h refl

-- a special text has no fault
special_no_fault : (text : List ℕ) (meaning : TextMeaning) → special_of text ≡ Some meaning → fault_of text ≡ None
special_no_fault [] meaning h = absurd (none-some _ h)
special_no_fault (c ∷ text) meaning h = special_by (mark_of (c ∷ text)) (after_mark (c ∷ text)) meaning h

-- a text that has a meaning has no fault
pub meaning_no_fault : (text : List ℕ) (meaning : TextMeaning) → Means text meaning → fault_of text ≡ None
meaning_no_fault text (infinity negative) h = special_no_fault text (infinity negative) h
meaning_no_fault text (not_a_number negative signaling payload) h =
    special_no_fault text (not_a_number negative signaling payload) h
meaning_no_fault text (hexadecimal negative h f e) m =
    let b = body_of (after_mark text) h f e m.1 in
    begun_fault text b.rest b.begun ∙ b.literal.no_fault

-- ---- a text has at most one meaning

-- the literal follows two characters
begun_rest : (body rest : List ℕ) → (body ≡ 48 ∷ 120 ∷ rest) ⊎ (body ≡ 48 ∷ 88 ∷ rest) → rest ≡ drop 2 body
begun_rest body rest (inl p) = rw p refl
begun_rest body rest (inr p) = rw p refl

-- what follows the first two characters of the body is the literal
literal_of_body : (body : List ℕ) (h f : ℕ) (e : ℤ) → IsBody body h f e → IsLiteral (drop 2 body) h f e
literal_of_body body h f e b = rw (begun_rest body b.rest b.begun) at b.literal

-- a hexadecimal number is a literal without a fault after its prefix
pub literal_of_hexadecimal : (body : List ℕ) (h f : ℕ) (e : ℤ) → IsHexadecimal body h f e
    → IsLiteral (drop 2 body) h f e
literal_of_hexadecimal body h f e x = literal_of_body body h f e (body_of body h f e x)

-- two readings of one literal have the same meaning
same_hexadecimal : (negative negative2 : Bool) (h f h2 f2 : ℕ) (e e2 : ℤ) → negative ≡ negative2 → (rest : List ℕ)
    → IsLiteral rest h f e → IsLiteral rest h2 f2 e2 → hexadecimal negative h f e ≡ hexadecimal negative2 h2 f2 e2
same_hexadecimal negative negative2 h f h2 f2 e e2 n rest l m =
    rw (n, l.h_is, l.f_is, l.e_is, m.h_is, m.f_is, m.e_is) refl

-- a hexadecimal number is not special
hexadecimal_no_special : (text : List ℕ) (h f : ℕ) (e : ℤ) → IsHexadecimal (after_mark text) h f e
    → special_of text ≡ None
hexadecimal_no_special text h f e x =
    let b = body_of (after_mark text) h f e x in begun_special text b.rest b.begun

-- no text has two meanings
pub one_meaning : (text : List ℕ) (first second : TextMeaning) → Means text first → Means text second → first ≡ second
one_meaning text (hexadecimal b h f e) (hexadecimal b2 h2 f2 e2) x y =
    same_hexadecimal b b2 h f h2 f2 e e2 (x.0 ∙ sym y.0) (drop 2 (after_mark text))
    (literal_of_hexadecimal (after_mark text) h f e x.1) (literal_of_hexadecimal (after_mark text) h2 f2 e2 y.1)
one_meaning text (hexadecimal b h f e) (infinity c) x y =
    absurd (none-some _ (sym (hexadecimal_no_special text h f e x.1) ∙ y))
one_meaning text (hexadecimal b h f e) (not_a_number c s p) x y =
    absurd (none-some _ (sym (hexadecimal_no_special text h f e x.1) ∙ y))
one_meaning text (infinity c) (hexadecimal b h f e) x y =
    absurd (none-some _ (sym (hexadecimal_no_special text h f e y.1) ∙ x))
one_meaning text (not_a_number c s p) (hexadecimal b h f e) x y =
    absurd (none-some _ (sym (hexadecimal_no_special text h f e y.1) ∙ x))
one_meaning text (infinity b) (infinity c) x y = same_Some (infinity b) (infinity c) (sym x ∙ y)
one_meaning text (infinity b) (not_a_number c s p) x y = same_Some (infinity b) (not_a_number c s p) (sym x ∙ y)
one_meaning text (not_a_number b s p) (infinity c) x y = same_Some (not_a_number b s p) (infinity c) (sym x ∙ y)
one_meaning text (not_a_number b s p) (not_a_number c t q) x y =
    same_Some (not_a_number b s p) (not_a_number c t q) (sym x ∙ y)
