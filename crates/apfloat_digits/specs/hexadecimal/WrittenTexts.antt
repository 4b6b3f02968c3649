-- Texts written into a buffer.
use Rattle.std.specs.Prelude.{◌≡◌, ℕ, ◌<◌, ◌≤◌, Bool, List, ◌++◌, length, drop, Result, Ok, Err}
use Rattle.apfloat_model.specs.declared.{kinds.Round.Round, status.StatusAnd.StatusAnd}
use Rattle.apfloat_model.specs.formats.{Datum.Datum, Format.Format}
use Rattle.apfloat_model.specs.{rounding.Flags.bits_of, whole_numbers.WholeNumbers.inexact_unless}
use Rattle.apfloat_digits.specs.declared.hexadecimal.written.HexError.{HexError}
use Rattle.apfloat_digits.specs.declared.hexadecimal.written.HexError.TheVariants.{NoRoom, TooManyDigits}
use Rattle.apfloat_digits.specs.hexadecimal.{HexTexts.IsHexText, RoundedTexts.IsRoundedHexText}

-- the text is at the start of the buffer, and the rest is unchanged; or the buffer is too short, and is unchanged
abbrev pub IsPut : List ℕ → List ℕ → List ℕ → Result ℕ HexError → Type 0
IsPut text before after (Ok count) =
    (length text ≤ length before) × (count ≡ length text) × (after ≡ text ++ drop (length text) before)
IsPut text before after (Err NoRoom) = (length before < length text) × (after ≡ before)
IsPut text before after (Err TooManyDigits) = ⊥

-- the shortest text of a value
pub record IsHexWritten (f : Format) (x : Datum) (before after : List ℕ) (answer : Result ℕ HexError) : Type 0 where
  pub text : List ℕ
  pub is_text : IsHexText f x text
  pub is_put : IsPut text before after answer

-- how many digits after the dot may be asked for: a value has at most as many
abbrev pub most_places : ℕ
most_places = 31

pub record IsRoundedWritten (f : Format) (mode : Round) (places : ℕ) (x : Datum) (before after : List ℕ)
    (put : Result ℕ HexError) (exact : Bool) : Type 0 where
  pub few : places ≤ most_places
  pub text : List ℕ
  pub is_text : IsRoundedHexText f mode places x text exact
  pub is_put : IsPut text before after put

-- the text of a value rounded to that many digits after the dot; the only flag is INEXACT, for another number than the
-- value
abbrev pub IsWrittenRounded : Format → Round → ℕ → Datum → List ℕ → List ℕ → Result (StatusAnd ℕ) HexError → Type 0
IsWrittenRounded f mode places x before after (Ok answer) =
    (exact : Bool) × IsRoundedWritten f mode places x before after (Ok answer.value) exact
    × (bits_of answer.status ≡ inexact_unless exact)
IsWrittenRounded f mode places x before after (Err NoRoom) =
    (exact : Bool) × IsRoundedWritten f mode places x before after (Err NoRoom) exact
IsWrittenRounded f mode places x before after (Err TooManyDigits) = (most_places < places) × (after ≡ before)
