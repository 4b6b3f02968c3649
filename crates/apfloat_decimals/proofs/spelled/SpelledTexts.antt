-- The number that a decimal text spells, by its parts, and the fault of a text that spells none.
use Rattle.std.proofs.Common.{◌≡◌, ◌⊎◌, ℕ, Bool, true, false, not, ◌&&◌, cond, refl, sym, ap}
use Rattle.std.proofs.Common.{◌∙◌, subst, inl, inr, arith, List, [], ◌∷◌, ◌++◌, length, drop, codes}
use Rattle.std.proofs.Common.{Option, Some, None, is_some, pos, ◌-ℤ◌, ◌==◌}
use Rattle.std.proofs.lemmas.Bool.{cases_Bool, ne_eqb, eqb-true, false≢true, not-false}
use Rattle.std.proofs.lemmas.Option.{none-some}
use Rattle.apfloat_model.specs.declared.kinds.Round.{Round}
use Rattle.apfloat_model.specs.declared.parse_error.Fault.{Fault, TheVariants.LoneMark}
use Rattle.apfloat_model.specs.declared.parse_error.Fault.TheVariants.{NoLiteral, SecondDot, WrongInSignificand}
use Rattle.apfloat_model.specs.declared.parse_error.Fault.TheVariants.{NoDigits, WrongInExponent, NoExponentDigits}
use Rattle.apfloat_model.specs.formats.{Format.Format, Datum.Datum}
use Rattle.apfloat_model.specs.texts.Digits.{every, begins, is_empty, run, after_run, is_decimal, number}
use Rattle.apfloat_model.specs.texts.Faults.{is_dot, begins_literal, after_prefix_fault, fault_of}
use Rattle.apfloat_model.specs.texts.{Literals.exponent_number, Specials.after_mark, Specials.special_of}
use Rattle.apfloat_model.proofs.general.Choices.{left_none}
use Rattle.apfloat_model.proofs.general.ListLaws.{append-every, split_run, run_passes, some_length}
use Rattle.apfloat_decimals.specs.Decimals.{IsDecimalDelivery}
use Rattle.apfloat_decimals.specs.DecimalTexts.{IsWrittenExponent, IsDecimalText, IsSpelled, fraction_in}
use Rattle.apfloat_decimals.specs.DecimalTexts.{after_fraction, body_fault, decimal_fault_of}
use Rattle.apfloat_conversions.specs.DecimalTails.{is_e, written_fault, fault_after}

-- ---- the parts of a text

-- the division of the text after the first digits: a dot or none, digits, and the rest
record IsSplitAtPoint (rest : List ℕ) : Type 0 where
  point : List ℕ
  spelled : rest ≡ point ++ (fraction_in rest ++ after_fraction rest)
  is_point : (point ≡ codes ".") ⊎ ((point ≡ []) × (fraction_in rest ≡ []))
  digits : every is_decimal (fraction_in rest) ≡ true

split : (rest : List ℕ) → IsSplitAtPoint rest
split [] = record { point = []; spelled = refl; is_point = inr (refl, refl); digits = refl }
split (c ∷ rest) = go (cases_Bool (is_dot c))
  where
    go : (is_dot c ≡ true) ⊎ (is_dot c ≡ false) → IsSplitAtPoint (c ∷ rest)
    go (inl e) =
        record {
          point = codes ".";
          spelled = rw e (rw (eqb-true c 46 e) (ap (λ (t : List ℕ). 46 ∷ t) (split_run is_decimal rest)));
          is_point = inl refl;
          digits = rw e (run_passes is_decimal rest);
        }
    go (inr e) = record { point = []; spelled = rw e refl; is_point = inr (refl, rw e refl); digits = rw e refl }

-- the first digits of a text are digits
pub first_digits : (body whole : List ℕ) → whole ≡ run is_decimal body → every is_decimal whole ≡ true
first_digits body whole e = subst (λ (t : List ℕ). every is_decimal t ≡ true) (sym e) (run_passes is_decimal body)

-- the digits after a dot are digits
pub fraction_digits : (rest fraction : List ℕ) → fraction ≡ fraction_in rest → every is_decimal fraction ≡ true
fraction_digits rest fraction e = subst (λ (t : List ℕ). every is_decimal t ≡ true) (sym e) (split rest).digits

-- an exponent without a fault is a written exponent
written : (tail : List ℕ) → (not (is_empty tail) && not (begins is_e tail)) ≡ false
    → written_fault tail ≡ None → IsWrittenExponent tail (exponent_number (drop 1 tail))
written [] b d = refl
written (letter ∷ exponent) b d =
    let every_one = left_none (not (every is_decimal (after_mark exponent))) WrongInExponent
    (cond (is_empty (after_mark exponent)) (Some NoExponentDigits) None) d in
    let some_one = left_none (is_empty (after_mark exponent)) NoExponentDigits None every_one.1 in (
      not-false (is_e letter) b,
      not-false (every is_decimal (after_mark exponent)) every_one.0,
      some_length (after_mark exponent) some_one.0,
      refl,
    )

-- a text without a fault spells its digits times a power of ten
pub body_text : (body whole rest fraction tail : List ℕ) (some : Bool) → whole ≡ run is_decimal body
    → rest ≡ after_run is_decimal body → fraction ≡ fraction_in rest → tail ≡ after_fraction rest
    → some ≡ not (is_empty (whole ++ fraction)) → fault_after some tail ≡ None
    → IsDecimalText body (number 10 (whole ++ fraction)) (exponent_number (drop 1 tail) -ℤ pos (length fraction))
body_text body whole rest fraction tail some w r f t n h =
    let s = split rest in
    let a = left_none (begins is_dot tail) SecondDot
    (cond (not (is_empty tail) && not (begins is_e tail)) (Some WrongInSignificand)
    (cond (not some) (Some NoDigits) (written_fault tail))) h in
    let b = left_none (not (is_empty tail) && not (begins is_e tail)) WrongInSignificand
    (cond (not some) (Some NoDigits) (written_fault tail)) a.1 in
    let d = left_none (not some) NoDigits (written_fault tail) b.1 in
    let some_digit : not (is_empty (whole ++ fraction)) ≡ true = sym n ∙ not-false some d.0 in
    let rest_is : rest ≡ s.point ++ (fraction ++ tail) = rw (f, t) s.spelled in
    let body_is : body ≡ whole ++ rest = rw (w, r) (split_run is_decimal body) in
    record {
      whole = whole;
      point = s.point;
      fraction = fraction;
      tail = tail;
      written = exponent_number (drop 1 tail);
      spelled = body_is ∙ ap (λ (x : List ℕ). whole ++ x) rest_is;
      is_point = rw f s.is_point;
      are_digits = append-every is_decimal whole fraction (first_digits body whole w) (fraction_digits rest fraction f);
      has_digits = some_length (whole ++ fraction) (empty_none (whole ++ fraction) some_digit);
      is_written = written tail b.0 d.1;
      digits_are = refl;
      exponent_is = refl;
    }
  where
    empty_none : (xs : List ℕ) → not (is_empty xs) ≡ true → is_empty xs ≡ false
    empty_none [] h = absurd (false≢true h)
    empty_none (x ∷ xs) h = refl

-- a text without a fault has that number, rounded once, as its value
pub body_spelled : (format : Format) (mode : Round) (negative : Bool) (body whole rest fraction tail : List ℕ)
    (some : Bool) (value : Datum) (status : ℕ) → whole ≡ run is_decimal body → rest ≡ after_run is_decimal body
    → fraction ≡ fraction_in rest → tail ≡ after_fraction rest → some ≡ not (is_empty (whole ++ fraction))
    → fault_after some tail ≡ None → IsDecimalDelivery format mode negative (number 10 (whole ++ fraction))
    (exponent_number (drop 1 tail) -ℤ pos (length fraction)) value status
    → IsSpelled format mode negative body value status
body_spelled format mode negative body whole rest fraction tail some value status w r f t n h delivered =
    record {
      digits = number 10 (whole ++ fraction);
      exponent = exponent_number (drop 1 tail) -ℤ pos (length fraction);
      is_text = body_text body whole rest fraction tail some w r f t n h;
      delivered = delivered;
    }

-- the first fault of a text, from its parts
pub body_faulted : (body whole rest fraction tail : List ℕ) (some : Bool) (fault : Fault) → whole ≡ run is_decimal body
    → rest ≡ after_run is_decimal body → fraction ≡ fraction_in rest → tail ≡ after_fraction rest
    → some ≡ not (is_empty (whole ++ fraction)) → fault_after some tail ≡ Some fault → body_fault body ≡ Some fault
body_faulted body whole rest fraction tail some fault w r f t n h =
    let h' : fault_after (not (is_empty (whole ++ fraction))) tail ≡ Some fault =
    subst (λ (b : Bool). fault_after b tail ≡ Some fault) n h in
    let t' : tail ≡ after_fraction (after_run is_decimal body) = t ∙ ap after_fraction r in
    let f' : fraction ≡ fraction_in (after_run is_decimal body) = f ∙ ap fraction_in r in
    let d : whole ++ fraction ≡ run is_decimal body ++ fraction_in (after_run is_decimal body) =
    ap (λ (x : List ℕ). x ++ fraction) w ∙ ap (λ (x : List ℕ). run is_decimal body ++ x) f' in
    subst (λ (x : List ℕ). fault_after (not (is_empty x)) (after_fraction (after_run is_decimal body)) ≡ Some fault) d
    (subst (λ (x : List ℕ). fault_after (not (is_empty (whole ++ fraction))) x ≡ Some fault) t' h')

-- ---- texts that are not empty

pub empty_is : (xs : List ℕ) → is_empty xs ≡ (length xs == 0)
empty_is [] = refl
empty_is (c ∷ xs) = sym (ne_eqb (length (c ∷ xs)) 0 (λ e. omega (arith, e)))

pub some_second : (first second : List ℕ) (none : Bool) → true ≡ (length first == 0)
    → none ≡ (length second == 0) → not none ≡ not (is_empty (first ++ second))
some_second [] second none h e = ap not (e ∙ sym (empty_is second))
some_second (c ∷ first) second none h e = absurd (false≢true (empty_is (c ∷ first) ∙ sym h))

pub some_first : (first second : List ℕ) → false ≡ (length first == 0) → true ≡ not (is_empty (first ++ second))
some_first [] second h = absurd (false≢true (h ∙ sym (empty_is [])))
some_first (c ∷ first) second h = refl

-- ---- the fault of a text

-- if nothing or the prefix of a hexadecimal number follows the sign, a known fault is that of the decimal text
pub other_fault : (text : List ℕ) (fault : Fault)
    → (not (is_empty (after_mark text)) && not (begins_literal (after_mark text))) ≡ false
    → fault_of text ≡ Some fault → decimal_fault_of text ≡ Some fault
other_fault [] fault h first = first
other_fault (c ∷ text) fault h first =
    go (is_empty (after_mark (c ∷ text))) (is_some (special_of (c ∷ text))) (begins_literal (after_mark (c ∷ text)))
    (after_prefix_fault (drop 2 (after_mark (c ∷ text)))) (body_fault (after_mark (c ∷ text))) h first
  where
    go : (b s l : Bool) (x y : Option Fault) → (not b && not l) ≡ false
        → cond b (Some LoneMark) (cond s None (cond (not l) (Some NoLiteral) x)) ≡ Some fault
        → cond b (Some LoneMark) (cond s None (cond l x y)) ≡ Some fault
    go true s l x y h first = first
    go false true l x y h first = first
    go false false true x y h first = first
    go false false false x y h first = absurd (false≢true (sym h))

-- for any other text that is refused, the fault is that of what follows the sign
pub plain_fault : (text : List ℕ) (fault other : Fault)
    → (not (is_empty (after_mark text)) && not (begins_literal (after_mark text))) ≡ true → fault_of text ≡ Some other
    → body_fault (after_mark text) ≡ Some fault → decimal_fault_of text ≡ Some fault
plain_fault [] fault other h first body = absurd (false≢true h)
plain_fault (c ∷ text) fault other h first body =
    go (is_empty (after_mark (c ∷ text))) (is_some (special_of (c ∷ text))) (begins_literal (after_mark (c ∷ text)))
    (after_prefix_fault (drop 2 (after_mark (c ∷ text)))) (body_fault (after_mark (c ∷ text))) h first body
  where
    go : (b s l : Bool) (x y : Option Fault) → (not b && not l) ≡ true
        → cond b (Some LoneMark) (cond s None (cond (not l) (Some NoLiteral) x)) ≡ Some other → y ≡ Some fault
        → cond b (Some LoneMark) (cond s None (cond l x y)) ≡ Some fault
    go true s l x y h first body = absurd (false≢true h)
    go false true l x y h first body = absurd (none-some other first)
    go false false true x y h first body = absurd (false≢true h)
    go false false false x y h first body = body
