-- Results from encodings to encodings.
use Rattle.std.specs.Prelude.{◌≡◌, ℕ, ◌*◌, ◌^◌, ◌<◌, Bool, false}
use Rattle.apfloat_model.specs.bits.Layout.{IsEncodedBy, datum_of}
use Rattle.apfloat_model.specs.formats.{Datum.Datum, Datum.finite, Lawful.Constants, Lawful.format_with}
use Rattle.apfloat_model.specs.{formats.Lawful.layout_with, declared.kinds.Round.Round, order.Classes.is_nan}
use Rattle.apfloat_model.specs.rounding.{Flags.bits_of, Rounding.IsDelivered}
use Rattle.apfloat_model.specs.whole_numbers.WholeNumbers.{IsRoundToIntegral}
use Rattle.fast_bits.specs.declared.encoded.Encoded.{Encoded}

-- the value that bits encode
abbrev pub value_in : Constants → ℕ → Datum
value_in c bits = datum_of (format_with c) (layout_with c) bits

-- the bits are the canonical encoding of a value that, with the flags, satisfies the relation
pub record IsEncodedAnswer (c : Constants) (Says : Datum → ℕ → Type 0) (answer : Encoded) : Type 0 where
  pub value : Datum
  pub says : Says value (bits_of answer.status)
  pub is_encoded : IsEncodedBy (format_with c) (layout_with c) answer.bits value

-- the value of the bits, rounded to an integral value
abbrev pub IsEncodedIntegral : Constants → Round → ℕ → Encoded → Type 0
IsEncodedIntegral c mode bits = IsEncodedAnswer c (IsRoundToIntegral (format_with c) mode (value_in c bits))

-- an encoded answer that is not a NaN
pub record IsNumberAnswer (c : Constants) (Says : Datum → ℕ → Type 0) (answer : Encoded) : Type 0 where
  pub is_answer : IsEncodedAnswer c Says answer
  pub is_number : is_nan (value_in c answer.bits) ≡ false

-- the bits are the encoding of the number that amount / parts quanta with that sign are rounded to
pub record IsEncodedNumber (c : Constants) (mode : Round) (negative : Bool) (amount parts : ℕ) (answer : Encoded)
    : Type 0 where
  pub quanta : ℕ
  pub is_delivered : IsDelivered (format_with c) mode negative amount parts (finite negative quanta)
      (bits_of answer.status)
  pub is_encoded : IsEncodedBy (format_with c) (layout_with c) answer.bits (finite negative quanta)

-- the bits of the format c encode a nonzero number, whose conversion to the format d is encoded
pub record IsEncodedConversion (c d : Constants) (mode : Round) (bits : ℕ) (answer : Encoded) : Type 0 where
  pub negative : Bool
  pub quanta : ℕ
  pub read : value_in c bits ≡ finite negative quanta
  pub some : 0 < quanta
  pub number : IsEncodedNumber d mode negative (quanta * 2 ^ (format_with d).scale) (2 ^ (format_with c).scale)
      answer
