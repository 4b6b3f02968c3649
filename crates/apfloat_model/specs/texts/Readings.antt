-- The results of reading a text (IEEE 754-2019 5.12).
use Rattle.std.specs.Prelude.{◌≡◌, ℕ, ◌*◌, ◌^◌, ℤ, pos, ◌+ℤ◌, ◌-ℤ◌, Bool, if◌then◌else◌, List, Some}
use Rattle.apfloat_model.specs.{declared.parse_error.Fault.Fault, declared.kinds.Round.Round, formats.Format.Format}
use Rattle.apfloat_model.specs.formats.{Datum.Datum, Datum.nan, Constants.infinity_of, Nan.quiet_significand}
use Rattle.apfloat_model.specs.{formats.Nan.signaling_significand, formats.Nan.nan_sign, rounding.Rounding.IsDelivered}
use Rattle.apfloat_model.specs.{rounding.Rounding.ok_bits, rounding.Answer.IsAnswer, arithmetic.Exact.up}
use Rattle.apfloat_model.specs.{arithmetic.Exact.down, texts.Texts.Means, texts.Faults.words, texts.Faults.fault_of}
use Rattle.apfloat_model.specs.texts.Specials.{TextMeaning, infinity, not_a_number, hexadecimal}

abbrev pub read_nan : Format → Bool → Bool → ℕ → Datum
read_nan f negative signaling payload =
    nan (nan_sign f.nonfinite negative)
    (if signaling then signaling_significand f payload else quiet_significand f payload)

-- n * 2 ^ power quanta with that sign, rounded once
abbrev pub IsScaledDelivery : Format → Round → Bool → ℕ → ℤ → Datum → ℕ → Type 0
IsScaledDelivery f mode negative n power value status =
    IsDelivered f mode negative (n * 2 ^ up power) (2 ^ down power) value status

-- The result for a meaning. A zero has the sign of its text, whatever its exponent.
abbrev pub IsMeant : Format → Round → TextMeaning → Datum → ℕ → Type 0
IsMeant f mode (infinity negative) value status = IsAnswer (infinity_of f negative) ok_bits value status
IsMeant f mode (not_a_number negative signaling payload) value status =
    IsAnswer (read_nan f negative signaling payload) ok_bits value status
IsMeant f mode (hexadecimal negative h places e) value status =
    IsScaledDelivery f mode negative h (e -ℤ pos (4 * places) +ℤ pos f.scale) value status

-- a text is read as the result for its meaning
pub record IsReading (f : Format) (mode : Round) (text : List ℕ) (value : Datum) (status : ℕ) : Type 0 where
  pub meaning : TextMeaning
  pub means : Means text meaning
  pub is_meant : IsMeant f mode meaning value status

-- a refusal has the message for the first fault of the text
pub record IsRefusal (text said : List ℕ) : Type 0 where
  pub fault : Fault
  pub is_first : fault_of text ≡ Some fault
  pub says : said ≡ words fault
