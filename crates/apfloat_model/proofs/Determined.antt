-- The relations between a format's operations and their results determine the results.
use Rattle.std.proofs.Common.{◌≡◌, ℕ, ◌-◌, ◌^◌, ◌<◌, ◌≤◌, Bool, eqb, List, Option, Some, None}
use Rattle.std.proofs.Common.{Result, Ok, Err, sym, refl, ap, ◌∙◌, subst, arith}
use Rattle.std.proofs.lemmas.{Nat.pow_pos, Int.ints, Option.none-some}
use Rattle.std.specs.Prelude.{ℤ, pos, ◌-ℤ◌, unsigned_abs}
use Rattle.std.specs.Option.{unwrap_or}
use Rattle.apfloat_model.specs.declared.{parse_error.Fault.Fault, parse_error.ParseError.ParseError, kinds.Round.Round}
use Rattle.apfloat_model.specs.{declared.status.StatusAnd.StatusAnd, rounding.Flags.Gives, rounding.Flags.bits_of}
use Rattle.apfloat_model.specs.formats.{Format.Format, Datum.Datum, Datum.finite, Datum.infinite, Datum.nan}
use Rattle.apfloat_model.specs.formats.Lawful.{Constants, IsLawful, format_with}
use Rattle.apfloat_model.specs.bits.{Layout.Layout, Layout.IsEncodedBy, Interchange.IsInterchange}
use Rattle.apfloat_model.specs.arithmetic.Sums.{IsSum, IsDifference}
use Rattle.apfloat_model.specs.arithmetic.{Products.IsProduct, Quotients.IsQuotient, Remainders.IsTruncatedRemainder}
use Rattle.apfloat_model.specs.arithmetic.Remainders.{IsNearestRemainder, truncated_quotient, nearest_quotient}
use Rattle.apfloat_model.specs.arithmetic.{Scaling.IsScaling, NextUp.IsNextUp, NextUp.IsNextDown, Exponents.IsIlogb}
use Rattle.apfloat_model.specs.arithmetic.Exponents.{IsLogarithm, IsFraction, IsFrexp, AreInverse, IsExactInverse}
use Rattle.apfloat_model.specs.whole_numbers.WholeNumbers.{IsFromUnsigned, IsFromSigned, IsRoundToIntegral}
use Rattle.apfloat_model.specs.whole_numbers.WholeNumbersOut.{IsToUnsigned, IsToSigned, to_unsigned, to_signed}
use Rattle.apfloat_model.specs.texts.Specials.{TextMeaning, infinity, not_a_number, hexadecimal}
use Rattle.apfloat_model.specs.texts.{Faults.words, Readings.IsMeant, Readings.IsReading, Readings.IsRefusal}
use Rattle.apfloat_model.specs.texts.Parsing.{IsRead}
use Rattle.apfloat_model.specs.Determined.{Determines, DeterminesBoth, AreOneReading, IsDetermined}
use Rattle.apfloat_model.proofs.{rounding.Laws.delivered_once, Once.Once, Once.answer_once, Once.sum_once}
use Rattle.apfloat_model.proofs.Once.{difference_once, product_once, quotient_once, scaling_once, from_unsigned_once}
use Rattle.apfloat_model.proofs.Once.{from_signed_once, round_to_integral_once, whole_once, remainder_once}
use Rattle.apfloat_model.proofs.{Once.next_up_once, Once.next_down_once, bits.EncodedOnce.encoded_once}
use Rattle.apfloat_model.proofs.arithmetic.Inverses.{logarithm_once, fraction_once, inverse_once}
use Rattle.apfloat_model.proofs.general.Choices.{match_one, match_case}
use Rattle.apfloat_model.proofs.texts.OneMeaning.{one_meaning, meaning_no_fault}

-- two results with the same value and the same status bits are equal
pub same_answer : {A : Type 0} (answer other : StatusAnd A) → answer.value ≡ other.value
    → bits_of answer.status ≡ bits_of other.status → answer ≡ other
same_answer {A} r s e d =
    ap (λ (v : A). record { status = r.status; value = v }) e
    ∙ ap (λ (b : ℕ). record { status = record { 0 = b }; value = s.value }) d

-- a relation that determines the value and the flags determines the value and the status
pub gives_once : {A : Type 0} (Says : A → ℕ → Type 0) → Once Says
    → Determines (λ (answer : StatusAnd A). Gives Says answer)
gives_once {A} Says once r s h k =
    let e = once r.value s.value (bits_of r.status) (bits_of s.status) h k in
    same_answer r s e.0 e.1

-- ---- exponents, fractions, exact inverses

-- at most one value equals a given value
is_once : {A : Type 0} (given : A) → Determines (λ (answer : A). answer ≡ given)
is_once given a b h k = h ∙ sym k

-- at most one pair equals a given pair
are_once : {A B : Type 0} (given : A) (other : B)
    → DeterminesBoth (λ (first : A) (second : B). (first ≡ given) × (second ≡ other))
are_once given other a c b d h k = (h.0 ∙ sym k.0, h.1 ∙ sym k.1)

-- the exponent of a datum is determined
pub exponent_once : (format : Format) (x : Datum) → Determines (IsIlogb format x)
exponent_once format (nan b s) = is_once _
exponent_once format (infinite b) = is_once _
exponent_once format (finite b n) = match_one Determines (eqb n 0) _ (IsLogarithm format n) (is_once _)
    (logarithm_once format n)

-- a fraction and its exponent are determined
pub frexp_once : (format : Format) (x : Datum) → 0 < format.scale → DeterminesBoth (IsFrexp format x)
frexp_once format (nan b s) p = are_once _ _
frexp_once format (infinite b) p = are_once _ _
frexp_once format (finite b n) p =
    match_case DeterminesBoth (eqb n 0) _ (IsFraction format b n) (are_once _ _)
    (λ v w d e. fraction_once format b n v w d e p)

-- a datum has at most one exact inverse
pub exact_inverse_once : (format : Format) (x : Datum) → Determines (IsExactInverse format x)
exact_inverse_once format (finite b n) (Some v) (Some w) h k =
    let i : AreInverse format n h.0 = h.1 in
    let p : 0 < 2 ^ (format.precision - 1) = pow_pos (format.precision - 1) in
    let l : 2 ^ (format.precision - 1) ≤ n = i.normal in
    let e : h.0 ≡ k.0 = inverse_once format n h.0 k.0 (omega arith) i k.1 in
    ap (λ (d : Datum). Some d) (h.2 ∙ ap (λ (m : ℕ). finite b m) e ∙ sym k.2)
exact_inverse_once format (finite b n) (Some v) None h k = absurd (k h.0 h.1)
exact_inverse_once format (finite b n) None (Some w) h k = absurd (h k.0 k.1)
exact_inverse_once format (finite b n) None None h k = refl
exact_inverse_once format (infinite b) (Some v) w h k = absurd h
exact_inverse_once format (infinite b) None (Some w) h k = absurd k
exact_inverse_once format (infinite b) None None h k = refl
exact_inverse_once format (nan b s) (Some v) w h k = absurd h
exact_inverse_once format (nan b s) None (Some w) h k = absurd k
exact_inverse_once format (nan b s) None None h k = refl

-- ---- integers out

-- the unsigned integer that a datum is converted to is determined, with its flags and its exactness
pub to_unsigned_once : (format : Format) (mode : Round) (width : ℕ) (x : Datum)
    → DeterminesBoth (λ (answer : StatusAnd ℕ) (exact : Bool).
    IsToUnsigned format mode width x answer.value (bits_of answer.status) exact)
to_unsigned_once format mode width x r s a b h k =
    let whole = to_unsigned format mode width x in
    let e = whole_once whole (pos r.value) (pos s.value) (bits_of r.status) (bits_of s.status) a b h k in
    (same_answer r s (ap unsigned_abs e.0) e.1, e.2)

-- the signed integer that a datum is converted to is determined, with its flags and its exactness
pub to_signed_once : (format : Format) (mode : Round) (width : ℕ) (x : Datum)
    → DeterminesBoth (λ (answer : StatusAnd ℤ) (exact : Bool).
    IsToSigned format mode width x answer.value (bits_of answer.status) exact)
to_signed_once format mode width x r s a b h k =
    let e = whole_once (to_signed format mode width x) r.value s.value (bits_of r.status) (bits_of s.status) a b h k in
    (same_answer r s e.0 e.1, e.2)

-- ---- texts

-- the result of a text's meaning is determined
meant_once : (format : Format) (mode : Round) (meaning : TextMeaning) → Once (IsMeant format mode meaning)
meant_once format mode (infinity negative) = answer_once _ _
meant_once format mode (not_a_number negative signaling payload) = answer_once _ _
meant_once format mode (hexadecimal negative h places e) = delivered_once format mode negative _ _

-- the value and the status of a text that is read are determined
pub reading_once : (format : Format) (mode : Round) (text : List ℕ) → Once (IsReading format mode text)
reading_once format mode text v w r s h k =
    let e = one_meaning text k.meaning h.meaning k.means h.means in
    meant_once format mode h.meaning v w r s h.is_meant
    (subst (λ (m : TextMeaning). IsMeant format mode m w s) e k.is_meant)

-- the words of a refusal are determined: those of the first fault
pub refusal_once : (text : List ℕ) → Determines (IsRefusal text)
refusal_once text r s h k =
    h.says ∙ ap (λ (o : Option Fault). words (unwrap_or o h.fault)) (sym h.is_first ∙ k.is_first) ∙ sym k.says

-- a text is not both read and refused
pub reading_or_refusal : (format : Format) (mode : Round) (text said : List ℕ) (value : Datum) (status : ℕ)
    → IsReading format mode text value status → IsRefusal text said → ⊥
reading_or_refusal format mode text said v s h k =
    none-some _ (sym (meaning_no_fault text h.meaning h.means) ∙ k.is_first)

-- the result of reading a text is determined, whether it is a value or a refusal
pub read_once : (format : Format) (mode : Round) (text : List ℕ) (answer other : Result (StatusAnd Datum) ParseError)
    → IsRead format mode text answer → IsRead format mode text other → AreOneReading answer other
read_once format mode text (Ok r) (Ok s) h k = gives_once (IsReading format mode text)
    (reading_once format mode text) r s h k
read_once format mode text (Ok r) (Err e) h k =
    reading_or_refusal format mode text e.0.now r.value (bits_of r.status) h k
read_once format mode text (Err e) (Ok r) h k =
    reading_or_refusal format mode text e.0.now r.value (bits_of r.status) k h
read_once format mode text (Err e) (Err d) h k = refusal_once text e.0.now d.0.now h k

-- ---- all relations

-- the quantum of a lawful format is below 1
pub scale_some : (constants : Constants) → IsLawful constants → 0 < (format_with constants).scale
scale_some constants law =
    let e : pos (constants.precision - 1) -ℤ constants.min_exp
    ≡ pos (unsigned_abs (pos (constants.precision - 1) -ℤ constants.min_exp)) =
    omega (arith, ints, law.parameters.precision_low, law.parameters.min_exp_high) in
    omega (arith, ints, law.parameters.precision_low, law.parameters.min_exp_high, e)

-- all relations of a format of positive scale determine their results, including the bits if it has any
pub determined : (format : Format) (layout : Layout) (precision bits : ℕ) (mode : Round) → 0 < format.scale
    → (precision < bits → IsInterchange format layout) → IsDetermined mode precision bits
    (λ (x y : Datum) (mode : Round) (answer : StatusAnd Datum). Gives (IsSum format mode x y) answer)
    (λ (x y : Datum) (mode : Round) (answer : StatusAnd Datum). Gives (IsDifference format mode x y) answer)
    (λ (x y : Datum) (mode : Round) (answer : StatusAnd Datum). Gives (IsProduct format mode x y) answer)
    (λ (x y : Datum) (mode : Round) (answer : StatusAnd Datum). Gives (IsQuotient format mode x y) answer)
    (IsExactInverse format) (λ (x y : Datum) (answer : StatusAnd Datum). Gives (IsTruncatedRemainder format x y) answer)
    (λ (x y : Datum) (answer : StatusAnd Datum). Gives (IsNearestRemainder format x y) answer)
    (λ (x : Datum) (written : ℕ). IsEncodedBy format layout written x)
    (λ (number : ℕ) (mode : Round) (answer : StatusAnd Datum). Gives (IsFromUnsigned format mode number) answer)
    (λ (number : ℤ) (mode : Round) (answer : StatusAnd Datum). Gives (IsFromSigned format mode number) answer)
    (λ (x : Datum) (mode : Round) (answer : StatusAnd Datum). Gives (IsRoundToIntegral format mode x) answer)
    (λ (x : Datum) (width : ℕ) (mode : Round) (answer : StatusAnd ℕ) (exact : Bool).
    IsToUnsigned format mode width x answer.value (bits_of answer.status) exact)
    (λ (x : Datum) (width : ℕ) (mode : Round) (answer : StatusAnd ℤ) (exact : Bool).
    IsToSigned format mode width x answer.value (bits_of answer.status) exact)
    (λ (x : Datum) (answer : StatusAnd Datum). Gives (IsNextUp format x) answer)
    (λ (x : Datum) (answer : StatusAnd Datum). Gives (IsNextDown format x) answer)
    (λ (x : Datum) (places : ℤ) (mode : Round) (value : Datum). IsScaling format mode x places value)
    (λ (x : Datum) (exponent : ℤ). IsIlogb format x exponent)
    (λ (x : Datum) (mode : Round) (value : Datum) (exponent : ℤ). IsFrexp format x value exponent)
    (λ (text : List ℕ) (mode : Round) (answer : Result (StatusAnd Datum) ParseError). IsRead format mode text answer)
determined format layout precision bits mode positive interchange =
    record {
      sum = λ x y. gives_once (IsSum format mode x y) (sum_once format mode x y);
      difference = λ x y. gives_once (IsDifference format mode x y) (difference_once format mode x y);
      product = λ x y. gives_once (IsProduct format mode x y) (product_once format mode x y);
      quotient = λ x y. gives_once (IsQuotient format mode x y) (quotient_once format mode x y);
      inverse = λ x. exact_inverse_once format x;
      remainder = λ x y. gives_once (IsTruncatedRemainder format x y) (remainder_once format truncated_quotient x y);
      nearest_remainder = λ x y. gives_once (IsNearestRemainder format x y)
          (remainder_once format nearest_quotient x y);
      bits = λ p x a b. encoded_once format layout x a b (interchange p);
      of_unsigned = λ number. gives_once (IsFromUnsigned format mode number) (from_unsigned_once format mode number);
      of_signed = λ number. gives_once (IsFromSigned format mode number) (from_signed_once format mode number);
      integral = λ x. gives_once (IsRoundToIntegral format mode x) (round_to_integral_once format mode x);
      to_unsigned = λ x width. to_unsigned_once format mode width x;
      to_signed = λ x width. to_signed_once format mode width x;
      above = λ x. gives_once (IsNextUp format x) (next_up_once format x);
      below = λ x. gives_once (IsNextDown format x) (next_down_once format x);
      scaled = λ x places. scaling_once format mode x places;
      exponent = λ x. exponent_once format x;
      fraction = λ x. frexp_once format x positive;
      reading = λ text. read_once format mode text;
    }
