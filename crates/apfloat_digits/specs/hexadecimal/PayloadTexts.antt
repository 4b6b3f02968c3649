-- NaNs written with their payloads, in formats with bits (IEEE 754-2019 5.12.1, 6.2.1).
use Rattle.std.specs.Prelude.{◌≡◌, ℕ, ◌+◌, ◌-◌, ◌%◌, ◌^◌, ◌<◌, ◌≤◌, List, [], ◌++◌, codes, Result}
use Rattle.apfloat_model.specs.declared.kinds.NonfiniteBehavior.{NonfiniteBehavior}
use Rattle.apfloat_model.specs.declared.kinds.NonfiniteBehavior.TheVariants.{IEEE754, NanOnly, NanNegativeZero}
use Rattle.apfloat_model.specs.formats.{Datum.Datum, Datum.finite, Datum.infinite, Datum.nan, Format.Format}
use Rattle.apfloat_digits.specs.declared.hexadecimal.written.HexError.{HexError}
use Rattle.apfloat_digits.specs.hexadecimal.{HexTexts.digits_text, HexTexts.IsHexText, WrittenTexts.IsPut}

-- the digits of a NaN's significand below the one that makes it quiet
abbrev pub payload_in : NonfiniteBehavior → ℕ → ℕ → ℕ
payload_in IEEE754 precision significand = significand % 2 ^ (precision - 2)
payload_in NanOnly precision significand = 0
payload_in NanNegativeZero precision significand = 0

-- other values have none
abbrev pub payload_of : Format → Datum → ℕ
payload_of f (finite negative quanta) = 0
payload_of f (infinite negative) = 0
payload_of f (nan negative significand) = payload_in f.nonfinite f.precision significand

-- nothing for 0, otherwise the digits, of which the first one is not 0
pub record IsPayloadText (payload : ℕ) (text : List ℕ) : Type 0 where
  pub none : payload ≡ 0 → text ≡ []
  pub some : 0 < payload → (places : ℕ) × (16 ^ places ≤ payload) × (payload < 16 ^ (places + 1))
      × (text ≡ codes "0x" ++ digits_text (places + 1) payload)

-- the shortest text, followed by the payload
pub record IsFullText (f : Format) (x : Datum) (text : List ℕ) : Type 0 where
  pub front : List ℕ
  pub rest : List ℕ
  pub is_front : IsHexText f x front
  pub is_rest : IsPayloadText (payload_of f x) rest
  pub text_is : text ≡ front ++ rest

pub record IsFullyWritten (f : Format) (x : Datum) (before after : List ℕ) (answer : Result ℕ HexError) : Type 0 where
  pub text : List ℕ
  pub is_text : IsFullText f x text
  pub is_put : IsPut text before after answer
