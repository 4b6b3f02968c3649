-- The reading of a text, as an infinity or a NaN, or as a literal.
use Rattle.std.proofs.Common.{◌≡◌, ℕ, Bool, true, false, refl, sym, ap, ◌∙◌, ⊎_elim, subst, List}
use Rattle.std.proofs.Common.{◌++◌, drop, codes, Some, None}
use Rattle.std.specs.Prelude.{Result, Ok, Err, MatchResult}
use Rattle.apfloat_model.specs.declared.{parse_error.Fault.Fault, marks.Mark.Mark, marks.Mark.TheVariants.Unmarked}
use Rattle.apfloat_model.specs.declared.{marks.Mark.TheVariants.Plus, marks.Mark.TheVariants.Minus, kinds.Round.Round}
use Rattle.apfloat_model.specs.{declared.status.StatusAnd.StatusAnd, rounding.Flags.bits_of, texts.Digits.is_empty}
use Rattle.apfloat_model.specs.texts.Specials.{hexadecimal, mark_of, after_mark, is_minus, special_meaning, special_of}
use Rattle.apfloat_model.specs.texts.{Texts.Means, Faults.begins_literal, Faults.after_prefix_fault, Faults.fault_of}
use Rattle.apfloat_model.specs.texts.Literals.{digits_number, places_after_dot, exponent_text, exponent_number}
use Rattle.apfloat_model.specs.texts.Readings.{IsMeant}
use Rattle.apfloat_model.proofs.texts.{EachText.begun_of, LiteralMeanings.literal_meaning}
use Rattle.apfloat_rounding.specs.declared.{shape.Shape.Shape, unpacked.Unpacked.Unpacked}
use Rattle.apfloat_rounding.specs.{Shapes.format_at, Stored.IsStored, Stored.datum_at}
use Rattle.apfloat_conversions.specs.declared.hex_texts.special.Special.{Special}
use Rattle.apfloat_conversions.specs.declared.hex_texts.special.Special.TheVariants.{Infinity, Quiet, Signaling}
use Rattle.apfloat_conversions.specs.hex_texts.{LiteralParts.IsLiteralRead, Payloads.meaning_of, TextsRead.IsTextRead}

-- a text of a special value means that value
means_special : (text : List ℕ) (negative : Bool) (special : Special)
    → special_of text ≡ Some (meaning_of negative special) → Means text (meaning_of negative special)
means_special text negative Infinity e = e
means_special text negative (Quiet payload) e = e
means_special text negative (Signaling payload) e = e

-- an infinity or a NaN is read as the text means it
pub special_read : (shape : Shape) (mode : Round) (text : List ℕ) (negative : Bool) (special : Special)
    (value : Unpacked) (answer : StatusAnd Unpacked)
    → special_of text ≡ Some (meaning_of negative special) → IsStored shape value
    → ((any : Round) → IsMeant (format_at shape) any (meaning_of negative special) (datum_at shape value) 0)
    → answer.value ≡ value → bits_of answer.status ≡ 0 → IsTextRead shape mode text answer
special_read shape mode text negative special value answer e stored meant v s =
    record {
      stored = subst (λ (x : Unpacked). IsStored shape x) (sym v) stored;
      reading = record {
        meaning = meaning_of negative special;
        means = means_special text negative special e;
        is_meant =
            subst (λ (b : ℕ). IsMeant (format_at shape) mode (meaning_of negative special)
            (datum_at shape answer.value) b) (sym s)
            (subst (λ (x : Unpacked). IsMeant (format_at shape) mode (meaning_of negative special)
            (datum_at shape x) 0) (sym v) (meant mode));
      };
    }

-- ---- a literal is not a special value

-- a text with the prefix 0x is not a special value
no_small_special : (mark : Mark) (rest : List ℕ) → special_meaning mark (codes "0x" ++ rest) ≡ None
no_small_special Unmarked rest = refl
no_small_special Plus rest = refl
no_small_special Minus rest = refl

-- a text with the prefix 0X is not a special value
no_capital_special : (mark : Mark) (rest : List ℕ) → special_meaning mark (codes "0X" ++ rest) ≡ None
no_capital_special Unmarked rest = refl
no_capital_special Plus rest = refl
no_capital_special Minus rest = refl

-- a text with the prefix of a literal after its mark is not a special value
no_special : (text : List ℕ) → begins_literal (after_mark text) ≡ true → special_of text ≡ None
no_special text b =
    let body = after_mark text in
    let rest = drop 2 body in
    let meaning = λ (t : List ℕ). special_meaning (mark_of text) t in
    ⊎_elim
    (λ (p : body ≡ codes "0x" ++ rest). ap meaning p ∙ no_small_special (mark_of text) rest)
    (λ (p : body ≡ codes "0X" ++ rest). ap meaning p ∙ no_capital_special (mark_of text) rest)
    (begun_of body b)

-- the fault of a literal is that of the text after its prefix
literal_fault_is : (text : List ℕ) → is_empty text ≡ false → is_empty (after_mark text) ≡ false → special_of text ≡ None
    → begins_literal (after_mark text) ≡ true → fault_of text ≡ after_prefix_fault (drop 2 (after_mark text))
literal_fault_is text t b s l = rw (t, b, s, l) refl

-- a text is read if its literal is
text_of_literal : (shape : Shape) (mode : Round) (text : List ℕ) (answer : StatusAnd Unpacked)
    → begins_literal (after_mark text) ≡ true
    → IsLiteralRead shape mode (is_minus (mark_of text)) (drop 2 (after_mark text)) answer
    → IsTextRead shape mode text answer
text_of_literal shape mode text answer l r =
    let rest = drop 2 (after_mark text) in
    record {
      stored = r.stored;
      reading = record {
        meaning = hexadecimal (is_minus (mark_of text)) (digits_number rest) (places_after_dot rest)
            (exponent_number (exponent_text rest));
        means = literal_meaning text l r.no_fault;
        is_meant = r.delivered;
      };
    }

-- a text with a prefix is read as a number, or refused for the first fault after the prefix
pub literal_text : (shape : Shape) (mode : Round)
    (text rest : List ℕ) (negative : Bool) (result : Result (StatusAnd Unpacked) Fault) → is_empty text ≡ false
    → is_empty (after_mark text) ≡ false → begins_literal (after_mark text) ≡ true → rest ≡ drop 2 (after_mark text)
    → negative ≡ is_minus (mark_of text) → MatchResult result (λ answer. IsLiteralRead shape mode negative rest answer)
    (λ fault. after_prefix_fault rest ≡ Some fault)
    → MatchResult result (λ answer. IsTextRead shape mode text answer) (λ fault. fault_of text ≡ Some fault)
literal_text shape mode text rest negative (Ok answer) t b l r n h =
    text_of_literal shape mode text answer l (rw (r, n) at h)
literal_text shape mode text rest negative (Err fault) t b l r n h =
    literal_fault_is text t b (no_special text l) l ∙ (rw r at h)
