-- Digits and hexadecimal texts are written in one way: one code, the same bytes, and one result.
use Rattle.std.proofs.Common.{◌≡◌, ℕ, ℤ, List, length, Option, Result, Ok, Err, refl, sym, ap, ◌∙◌, subst, arith}
use Rattle.rustc_apfloat.specs.{Datum.Datum, Flags.bits_of, Format.Format, Lawful.format_with}
use Rattle.rustc_apfloat.specs.declared.{StatusAnd.StatusAnd, Round.Round}
use Rattle.apfloat_model.specs.whole_numbers.WholeNumbers.{inexact_unless}
use Rattle.apfloat_digits.specs.declared.decimal.written.Written.{Written}
use Rattle.apfloat_digits.specs.declared.decimal.written.Written.TheVariants.{Digits, WithoutDigits, NoRoom}
use Rattle.apfloat_digits.specs.declared.hexadecimal.written.HexError.{HexError}
use Rattle.apfloat_digits.specs.declared.hexadecimal.written.HexError.TheVariants.{NoRoom as NoRoomForText}
use Rattle.apfloat_digits.specs.declared.hexadecimal.written.HexError.TheVariants.{TooManyDigits}
use Rattle.apfloat_digits.specs.hexadecimal.WrittenTexts.{IsPut, IsWrittenRounded}
use Rattle.apfloat_digits.proofs.decimal_lemmas.{OneCount.one_answer, RoundedTexts.one_written}
use Rattle.apfloat_digits.proofs.hexadecimal_lemmas.{NanPayloads.one_full, Roundings.one_text}
use Rattle.formats_at_run_time.specs.{declared.BuiltInFormat.BuiltInFormat, BuiltIns.constants_in, ValueKinds.value_of}
use Rattle.coded_calls.specs.{declared.data.Answer.Answer, OneReply.SameAnswer}
use Rattle.coded_calls.proofs.ExportsOnce.{unchanged}
use Rattle.apfloat_c.specs.Digits.{AreDigitsLeft, AreDigitsWrittenOnce, IsCountGivenOnce, IsCounted, IsHexPutOnce}
use Rattle.apfloat_c.specs.Digits.{IsHexTold, IsRoundedHexPutOnce, IsRoundedHexTold, IsWritingTold, count_told}

counted_once : (size other status also : ℕ) (exponent : ℤ) (first second : Answer) → size ≡ other
    → status ≡ also
    → IsCounted size status exponent first → IsCounted other also exponent second → SameAnswer first second
counted_once size other status also exponent a b same flags x y =
    record {
      bits = x.bits ∙ same ∙ sym y.bits;
      status = x.status_is ∙ flags ∙ sym y.status_is;
      number = x.number ∙ sym y.number;
    }

-- ---- decimal digits

writing_once : (written : Written) (size also : ℕ) (old first second : Answer) (code other : ℕ) → size ≡ also
    → IsWritingTold written size old first code → IsWritingTold written also old second other
    → (code ≡ other) × SameAnswer first second
writing_once (Digits given) size also old a b code other same x y =
    (x.0 ∙ sym y.0, counted_once size also _ _ given.value a b same refl x.1 y.1)
writing_once (WithoutDigits category) size also old a b code other same x y =
    (x.0 ∙ sym y.0, counted_once 0 0 0 0 _ a b refl refl x.1 y.1)
writing_once NoRoom size also old a b code other same x y = (x.0 ∙ sym y.0, unchanged old a b x.1 y.1)

left_once : (format : BuiltInFormat) (mode : Round) (bits : ℕ) (before after also : List ℕ)
    (old first second : Answer) (code other : ℕ) → AreDigitsLeft format mode bits before after old first code
    → AreDigitsLeft format mode bits before also old second other
    → (code ≡ other) × (after ≡ also) × SameAnswer first second
left_once format mode bits before after also old a b code other x y =
    let c = constants_in format in
    let once = one_written (format_with c) mode (value_of c bits) before after also x.written y.written x.is_written
    y.is_written in
    let told = subst (λ (w : Written). IsWritingTold w (length also) old b other) (sym once.1) y.told in
    let answers = writing_once x.written (length after) (length also) old a b code other
    (ap (λ (xs : List ℕ). length xs) once.0) x.told told in
    (answers.0, once.0, answers.1)

pub digits_once : AreDigitsWrittenOnce
digits_once (Err error) bits before old after also a b code other x y =
    (x.0 ∙ sym y.0, x.1 ∙ sym y.1, unchanged old a b x.2 y.2)
digits_once (Ok known) bits before old after also a b code other x y =
    left_once known.format known.mode bits before after also old a b code other x y

pub count_given_once : IsCountGivenOnce
count_given_once (Err error) bits old a b code other x y = (x.0 ∙ sym y.0, unchanged old a b x.1 y.1)
count_given_once (Ok format) bits old a b code other x y =
    let c = constants_in format in
    let same = one_answer (format_with c) (value_of c bits) x.1.count y.1.count x.1.is_count y.1.is_count in (
      x.0 ∙ sym y.0,
      counted_once (count_told x.1.count) (count_told y.1.count) 0 0 _ a b
          (ap (λ (count : Option ℕ). count_told count) same) refl x.1.told y.1.told,
    )

-- ---- hexadecimal digits

-- a text that fits is put in one way
put_once : (text before after also : List ℕ) (size other : ℕ) → IsPut text before after (Ok size)
    → IsPut text before also (Ok other) → (after ≡ also) × (size ≡ other)
put_once text before after also size other x y = (x.2 ∙ sym y.2, x.1 ∙ sym y.1)

-- a text that fits is not too long
fits_or_not : (text before after also : List ℕ) (size : ℕ) → IsPut text before after (Ok size)
    → IsPut text before also (Err NoRoomForText) → ⊥
fits_or_not text before after also size x y = omega (arith, x.0, y.0)

hex_once : (text before after also : List ℕ) (answer more : Result ℕ HexError) (old first second : Answer)
    (code other : ℕ) → IsPut text before after answer → IsPut text before also more
    → IsHexTold answer old first code → IsHexTold more old second other
    → (code ≡ other) × (after ≡ also) × SameAnswer first second
hex_once text before after also (Ok m) (Ok n) old a b code other x y t u =
    let once = put_once text before after also m n x y in
    (t.0 ∙ sym u.0, once.0, counted_once m n 0 0 _ a b once.1 refl t.1 u.1)
hex_once text before after also (Ok m) (Err NoRoomForText) old a b code other x y t u =
    absurd (fits_or_not text before after also m x y)
hex_once text before after also (Ok m) (Err TooManyDigits) old a b code other x y t u = absurd y
hex_once text before after also (Err NoRoomForText) (Ok n) old a b code other x y t u =
    absurd (fits_or_not text before also after n y x)
hex_once text before after also (Err NoRoomForText) (Err NoRoomForText) old a b code other x y t u =
    (t.0 ∙ sym u.0, x.1 ∙ sym y.1, unchanged old a b t.1 u.1)
hex_once text before after also (Err NoRoomForText) (Err TooManyDigits) old a b code other x y t u = absurd y
hex_once text before after also (Err TooManyDigits) more old a b code other x y t u = absurd x

pub hex_put_once : IsHexPutOnce
hex_put_once (Err error) bits before old after also a b code other x y =
    (x.0 ∙ sym y.0, x.1 ∙ sym y.1, unchanged old a b x.2 y.2)
hex_put_once (Ok format) bits before old after also a b code other x y =
    let c = constants_in format in
    let same = one_full (format_with c) (value_of c bits) x.is_hex.text y.is_hex.text x.is_hex.is_text
    y.is_hex.is_text in
    let put = subst (λ (text : List ℕ). IsPut text before also y.answer) (sym same) y.is_hex.is_put in
    hex_once x.is_hex.text before after also x.answer y.answer old a b code other x.is_hex.is_put put x.told y.told

rounded_once : (f : Format) (mode : Round) (places : ℕ) (d : Datum) (before after also : List ℕ)
    (answer more : Result (StatusAnd ℕ) HexError) (old first second : Answer) (code other : ℕ)
    → IsWrittenRounded f mode places d before after answer → IsWrittenRounded f mode places d before also more
    → IsRoundedHexTold answer old first code → IsRoundedHexTold more old second other
    → (code ≡ other) × (after ≡ also) × SameAnswer first second
rounded_once f mode places d before after also (Ok m) (Ok n) old a b code other x y t u =
    let same = one_text f mode places d x.1.text y.1.text x.0 y.0 x.1.is_text y.1.is_text in
    let put = subst (λ (text : List ℕ). IsPut text before also (Ok n.value)) (sym same.0) y.1.is_put in
    let once = put_once x.1.text before after also m.value n.value x.1.is_put put in
    let status : bits_of m.status ≡ bits_of n.status = x.2 ∙ ap inexact_unless same.1 ∙ sym y.2 in
    (t.0 ∙ sym u.0, once.0, counted_once m.value n.value _ _ _ a b once.1 status t.1 u.1)
rounded_once f mode places d before after also (Ok m) (Err NoRoomForText) old a b code other x y t u =
    let same = one_text f mode places d x.1.text y.1.text x.0 y.0 x.1.is_text y.1.is_text in
    let put = subst (λ (text : List ℕ). IsPut text before also (Err NoRoomForText)) (sym same.0) y.1.is_put in
    absurd (fits_or_not x.1.text before after also m.value x.1.is_put put)
rounded_once f mode places d before after also (Ok m) (Err TooManyDigits) old a b code other x y t u =
    absurd (omega (arith, x.1.few, y.0))
rounded_once f mode places d before after also (Err NoRoomForText) (Ok n) old a b code other x y t u =
    let same = one_text f mode places d x.1.text y.1.text x.0 y.0 x.1.is_text y.1.is_text in
    let put = subst (λ (text : List ℕ). IsPut text before also (Ok n.value)) (sym same.0) y.1.is_put in
    absurd (fits_or_not x.1.text before also after n.value put x.1.is_put)
rounded_once f mode places d before after also (Err NoRoomForText) (Err NoRoomForText) old a b code other x y t u =
    (t.0 ∙ sym u.0, x.1.is_put.1 ∙ sym y.1.is_put.1, unchanged old a b t.1 u.1)
rounded_once f mode places d before after also (Err NoRoomForText) (Err TooManyDigits) old a b code other x y t u =
    absurd (omega (arith, x.1.few, y.0))
rounded_once f mode places d before after also (Err TooManyDigits) (Ok n) old a b code other x y t u =
    absurd (omega (arith, x.0, y.1.few))
rounded_once f mode places d before after also (Err TooManyDigits) (Err NoRoomForText) old a b code other x y t u =
    absurd (omega (arith, x.0, y.1.few))
rounded_once f mode places d before after also (Err TooManyDigits) (Err TooManyDigits) old a b code other x y t u =
    (t.0 ∙ sym u.0, x.1 ∙ sym y.1, unchanged old a b t.1 u.1)

pub rounded_hex_put_once : IsRoundedHexPutOnce
rounded_hex_put_once (Err error) places bits before old after also a b code other x y =
    (x.0 ∙ sym y.0, x.1 ∙ sym y.1, unchanged old a b x.2 y.2)
rounded_hex_put_once (Ok known) places bits before old after also a b code other x y =
    let c = constants_in known.format in
    rounded_once (format_with c) known.mode places (value_of c bits) before after also x.answer y.answer old a b code
    other x.is_hex y.is_hex x.told y.told
