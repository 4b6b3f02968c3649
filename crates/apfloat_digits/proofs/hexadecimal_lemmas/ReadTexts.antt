-- The text of a value is read as that value, and is the only one.
use Rattle.std.proofs.Common.{◌≡◌, ◌⊎◌, ℕ, zero, suc, ◌+◌, ◌*◌, ◌^◌, ◌<◌, Bool, true, false, cond, refl, sym, ap, ◌∙◌}
use Rattle.std.proofs.Common.{subst, inl, inr, arith, lit<, List, [], ◌∷◌, ◌++◌, codes, eqb, ℤ, pos, neg_ℤ, ◌+ℤ◌, ◌-ℤ◌}
use Rattle.std.proofs.Common.{◌≤ℤ◌}
use Rattle.std.proofs.lemmas.{Int.ints, Nat.pow_pos, Option.none-some}
use Rattle.std.proofs.lemmas.Bool.{MatchBool-at_false, and_from, ne_eqb}
use Rattle.std.specs.{Prelude.Result, Prelude.Ok, Prelude.Err, Fmt.signed_decimal}
use Rattle.apfloat_model.specs.{arithmetic.Exact.up, arithmetic.Exact.down, declared.parse_error.ParseError.ParseError}
use Rattle.apfloat_model.specs.declared.{status.StatusAnd.StatusAnd, kinds.NonfiniteBehavior.NonfiniteBehavior}
use Rattle.apfloat_model.specs.{declared.kinds.Round.Round, formats.Format.Format, formats.Format.nan_base}
use Rattle.apfloat_model.specs.formats.{Members.IsMember, Nan.is_signaling, Datum.Datum, Datum.finite, Datum.infinite}
use Rattle.apfloat_model.specs.{formats.Datum.nan, rounding.Flags.bits_of, rounding.Rounding.past_largest}
use Rattle.apfloat_model.specs.texts.{Digits.every, Digits.is_hexadecimal, Parsing.IsRead, Readings.IsMeant}
use Rattle.apfloat_model.specs.texts.Specials.{TextMeaning, infinity, not_a_number, hexadecimal}
use Rattle.apfloat_model.specs.texts.Texts.{Means, IsHexadecimal}
use Rattle.apfloat_model.proofs.{rounding.Laws.zero_delivered, texts.OneMeaning.meaning_no_fault}
use Rattle.apfloat_model.proofs.{texts.OneMeaning.one_meaning, formats.LawfulRanges.HasRanges}
use Rattle.apfloat_model.proofs.rounding.{Deliveries.signed_some, Laws.delivered_once, Laws.exact_delivered}
use Rattle.apfloat_decimals.specs.Texts.{sign_text}
use Rattle.apfloat_conversions.specs.hex_texts.Scans.{number_from}
use Rattle.apfloat_digits.specs.hexadecimal.HexTexts.{character, digits_text, dotted, magnitude_text, number_text}
use Rattle.apfloat_digits.specs.hexadecimal.HexTexts.{last_place, IsShortestText, IsHexText}
use Rattle.apfloat_digits.specs.hexadecimal.ReadBack.{back, IsReadExactly, IsReadBack}
use Rattle.apfloat_digits.proofs.hexadecimal_lemmas.Characters.{digit_of, digits_number, digits_length}
use Rattle.apfloat_digits.proofs.hexadecimal_lemmas.Characters.{digits_hexadecimal, exponent_written}
use Rattle.apfloat_digits.proofs.hexadecimal_lemmas.Numbers.{exponent_within, one_number}

-- ---- the text of a number

-- what is after the dot, if there is one
record IsDotted (places fraction : ℕ) : Type 0 where
  point : List ℕ
  digits : List ℕ
  is_point : (point ≡ codes ".") ⊎ ((point ≡ []) × (digits ≡ []))
  digits_are : digits ≡ digits_text places fraction
  joined : (tail : List ℕ) → dotted places fraction ++ tail ≡ point ++ (digits ++ tail)

dotted_parts : (places fraction : ℕ) → IsDotted places fraction
dotted_parts zero fraction =
    record { point = []; digits = []; is_point = inr (refl, refl); digits_are = refl; joined = λ tail. refl }
dotted_parts (suc p) fraction =
    let some : eqb (suc p) 0 ≡ false = ne_eqb (suc p) 0 (λ e. omega (arith, e)) in
    record {
      point = codes ".";
      digits = digits_text (suc p) fraction;
      is_point = inl refl;
      digits_are = refl;
      joined = λ tail.
          ap (λ (b : Bool). (cond b [] (codes "." ++ digits_text (suc p) fraction)) ++ tail) some;
    }

-- a text that begins with 0x
body_means : (first places fraction : ℕ) (e : ℤ) → first < 16 → fraction < 16 ^ places
    → neg_ℤ (pos (2 ^ 32)) ≤ℤ e → e ≤ℤ pos (2 ^ 32)
    → IsHexadecimal (magnitude_text first places fraction e) (first * 16 ^ places + fraction) places e
body_means first places fraction e one fits low high =
    let dot = dotted_parts places fraction in
    let exponent = exponent_written e low high in
    let digit = digit_of first one in
    let none : 0 * 16 + first ≡ first = omega arith in
    record {
      prefix = codes "0x";
      whole = character first ∷ [];
      point = dot.point;
      fraction = dot.digits;
      letter = codes "p";
      exponent = signed_decimal e;
      spelled = ap (λ (t : List ℕ). codes "0x" ++ (character first ∷ t)) (dot.joined (codes "p" ++ signed_decimal e));
      is_prefix = inl refl;
      is_point = dot.is_point;
      is_letter = inl refl;
      are_digits = and_from (is_hexadecimal (character first)) (every is_hexadecimal dot.digits) digit.is
          (rw dot.digits_are (digits_hexadecimal places fraction));
      has_digits = omega arith;
      are_exponent_digits = exponent.are_digits;
      has_exponent_digits = exponent.some;
      h_is = sym (ap (λ (d : ℕ). number_from (0 * 16 + d) dot.digits) digit.value
          ∙ ap (λ (n : ℕ). number_from n dot.digits) none ∙ ap (λ (t : List ℕ). number_from first t) dot.digits_are
          ∙ digits_number places first fraction fits);
      f_is = rw dot.digits_are (sym (digits_length places fraction));
      e_is = exponent.is;
    }

number_means : (negative : Bool) (first places fraction : ℕ) (e : ℤ) → first < 16 → fraction < 16 ^ places
    → neg_ℤ (pos (2 ^ 32)) ≤ℤ e → e ≤ℤ pos (2 ^ 32) → Means (number_text negative first places fraction e)
    (hexadecimal negative (first * 16 ^ places + fraction) places e)
number_means true first places fraction e one fits low high =
    (refl, body_means first places fraction e one fits low high)
number_means false first places fraction e one fits low high =
    (refl, body_means first places fraction e one fits low high)

-- ---- what is read

-- the text has a meaning, and that is the datum, exactly
pub record IsTextOf (f : Format) (mode : Round) (x : Datum) (text : List ℕ) : Type 0 where
  pub meaning : TextMeaning
  pub means : Means text meaning
  pub meant : (value : Datum) (status : ℕ) → IsMeant f mode meaning value status → (value ≡ x) × (status ≡ 0)

number_of : (f : Format) (mode : Round) (negative : Bool) (q : ℕ) (text : List ℕ) → HasRanges f → 0 < q
    → IsMember f (finite negative q) → IsShortestText f negative q text → IsTextOf f mode (finite negative q) text
number_of f mode negative q text ranges some member x =
    let n = x.number in
    let within = exponent_within f q x.places x.fraction x.exponent ranges some member.within n.fits n.number in
    let low = within.low in
    let z = last_place f x.places x.exponent in
    let h = 16 ^ x.places + x.fraction in
    let same : 1 * 16 ^ x.places + x.fraction ≡ h = omega arith in
    let means = number_means negative 1 x.places x.fraction x.exponent (lit< tt) n.fits (omega (arith, ints, low))
    (omega (arith, ints, within.high)) in
    let exactly = exact_delivered f mode negative q (h * 2 ^ up z) (2 ^ down z) (pow_pos (down z)) member.on_grid
    member.within (sym n.number) in
    record {
      meaning = hexadecimal negative h x.places x.exponent;
      means = subst (λ (t : List ℕ). Means t (hexadecimal negative h x.places x.exponent)) (sym x.text_is)
          (subst (λ (n : ℕ). Means (number_text negative 1 x.places x.fraction x.exponent)
          (hexadecimal negative n x.places x.exponent)) same means);
      meant = λ value status meant.
          let once = delivered_once f mode negative (h * 2 ^ up z) (2 ^ down z) value _ status 0 meant exactly in
          (once.0 ∙ signed_some f.nonfinite negative q some, once.1);
    }

zero_of : (f : Format) (mode : Round) (negative : Bool) (text : List ℕ) → IsMember f (finite negative 0)
    → text ≡ number_text negative 0 0 0 (pos 0) → IsTextOf f mode (finite negative 0) text
zero_of f mode negative text member e =
    let means = number_means negative 0 0 0 (pos 0) (lit< tt) (omega arith) (omega (arith, ints)) (omega (arith, ints))
    in
    let z = pos 0 -ℤ pos (4 * 0) +ℤ pos f.scale in
    let exactly = zero_delivered f mode negative (2 ^ down z) (0 * 2 ^ up z) (pow_pos (down z)) (omega arith) in
    record {
      meaning = hexadecimal negative 0 0 (pos 0);
      means = subst (λ (t : List ℕ). Means t (hexadecimal negative 0 0 (pos 0))) (sym e) means;
      meant = λ value status meant.
          let once = delivered_once f mode negative (0 * 2 ^ up z) (2 ^ down z) value _ status 0 meant exactly in
          (once.0 ∙ ap (λ (b : Bool). finite b 0) (sym (member.zero_has refl)), once.1);
    }

infinity_means : (negative : Bool) → Means (sign_text negative ++ codes "inf") (infinity negative)
infinity_means true = refl
infinity_means false = refl

pub nan_means : (negative signaling : Bool)
    → Means (sign_text negative ++ ((cond signaling (codes "s") []) ++ codes "nan")) (not_a_number negative signaling 0)
nan_means true true = refl
nan_means true false = refl
nan_means false true = refl
nan_means false false = refl

pub text_of : (f : Format) (mode : Round) (x : Datum) (text : List ℕ) → HasRanges f → IsMember f x → IsHexText f x text
    → IsTextOf f mode (back f x) text
text_of f mode (finite negative zero) text ranges member is = zero_of f mode negative text member is
text_of f mode (finite negative (suc q)) text ranges member is =
    let some : eqb (suc q) 0 ≡ false = ne_eqb (suc q) 0 (λ e. omega (arith, e)) in
    number_of f mode negative (suc q) text ranges (omega arith) member
    (MatchBool-at_false (text ≡ number_text negative 0 0 0 (pos 0)) (IsShortestText f negative (suc q) text) some is)
text_of f mode (infinite negative) text ranges member is = record {
  meaning = infinity negative;
  means = subst (λ (t : List ℕ). Means t (infinity negative)) (sym is) (infinity_means negative);
  meant = λ value status meant. (
    meant.value_is ∙ ap (λ (kind : NonfiniteBehavior). past_largest kind (nan_base f) negative) member,
    meant.status_is,
  );
}
text_of f mode (nan negative significand) text ranges member is = record {
  meaning = not_a_number negative (is_signaling f significand) 0;
  means = subst (λ (t : List ℕ). Means t (not_a_number negative (is_signaling f significand) 0)) (sym is)
      (nan_means negative (is_signaling f significand));
  meant = λ value status meant. (meant.value_is, meant.status_is);
}

pub read_of : (f : Format) (mode : Round) (x : Datum) (text : List ℕ) (answer : Result (StatusAnd Datum) ParseError)
    → IsTextOf f mode x text → IsRead f mode text answer → IsReadExactly x answer
read_of f mode x text (Ok answer) t read =
    let same = one_meaning text read.meaning t.meaning read.means t.means in
    t.meant answer.value (bits_of answer.status)
    (subst (λ (m : TextMeaning). IsMeant f mode m answer.value (bits_of answer.status)) same read.is_meant)
read_of f mode x text (Err error) t read =
    absurd (none-some _ (sym (meaning_no_fault text t.meaning t.means) ∙ read.is_first))

pub read_back : (f : Format) (mode : Round) (x : Datum) (text : List ℕ) (answer : Result (StatusAnd Datum) ParseError)
    → HasRanges f → IsMember f x → IsHexText f x text → IsRead f mode text answer → IsReadBack f x answer
read_back f mode x text answer ranges member is read =
    read_of f mode (back f x) text answer (text_of f mode x text ranges member is) read

-- ---- one text

one_shortest : (f : Format) (negative : Bool) (q : ℕ) (text other : List ℕ) → IsShortestText f negative q text
    → IsShortestText f negative q other → text ≡ other
one_shortest f negative q text other x y =
    let same = one_number f q x.places x.fraction y.places y.fraction x.exponent y.exponent x.number y.number in
    x.text_is ∙ ap (λ (p : ℕ). number_text negative 1 p x.fraction x.exponent) same.places
    ∙ ap (λ (a : ℕ). number_text negative 1 y.places a x.exponent) same.fraction
    ∙ ap (λ (e : ℤ). number_text negative 1 y.places y.fraction e) same.exponent ∙ sym y.text_is

pub one_text : (f : Format) (x : Datum) (text other : List ℕ) → IsHexText f x text → IsHexText f x other → text ≡ other
one_text f (finite negative zero) text other h k = h ∙ sym k
one_text f (finite negative (suc q)) text other h k =
    let some : eqb (suc q) 0 ≡ false = ne_eqb (suc q) 0 (λ e. omega (arith, e)) in
    one_shortest f negative (suc q) text other
    (MatchBool-at_false (text ≡ number_text negative 0 0 0 (pos 0)) (IsShortestText f negative (suc q) text) some h)
    (MatchBool-at_false (other ≡ number_text negative 0 0 0 (pos 0)) (IsShortestText f negative (suc q) other) some k)
one_text f (infinite negative) text other h k = h ∙ sym k
one_text f (nan negative significand) text other h k = h ∙ sym k
