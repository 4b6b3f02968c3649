-- Arrays of values out of blocks.
use Rattle.std.specs.Prelude.{◌≡◌, ℕ, ◌/◌, get_or, List, length, Result, Ok, Err}
use Rattle.rustc_apfloat.specs.{declared.Round.Round, Classes.is_nan, Datum.Datum, Flags.bits_of, Lawful.Constants}
use Rattle.rustc_apfloat.specs.{Lawful.format_with, Lawful.layout_with, Layout.IsEncodedBy}
use Rattle.formats_at_run_time.specs.FlaggedKinds.{flagged_constants, format_without_rule}
use Rattle.apfloat_arrays.specs.{declared.scaled_blocks.formats.BlockFormat.BlockFormat, Blocks.AreInPlaces}
use Rattle.apfloat_arrays.specs.{Bytes.number_of, Outcomes.counts_of, Widths.width_of, declared.counts.Counts.Counts}
use Rattle.apfloat_arrays.specs.declared.{counts.Outcome.Outcome, widths.Extended.TheVariants.Packed}
use Rattle.apfloat_arrays.specs.declared.scaled_blocks.errors.ArrayError.{ArrayError, TheVariants.CodeTooWide}
use Rattle.apfloat_arrays.specs.declared.scaled_blocks.dequantizing.Dequantization.{Dequantization}
use Rattle.apfloat_arrays.specs.scaled_blocks.Formats.{AreNarrow, AreWide, IsScaledIn}

-- how many bytes a value takes
abbrev pub width_out : Dequantization → ℕ
width_out q = width_of (format_without_rule q.target) Packed

-- the bytes are those of the element's product with the scale, and this is its outcome
pub record IsScaledCode (format : BlockFormat) (d : Constants) (mode : Round) (scale code : ℕ) (bytes : List ℕ)
    (outcome : Outcome) : Type 0 where
  pub value : Datum
  pub is_scaled : IsScaledIn format (format_with d) mode scale code value (bits_of outcome.status)
  pub is_encoded : IsEncodedBy (format_with d) (layout_with d) (number_of bytes) value
  pub nan_is : outcome.is_nan ≡ is_nan value

-- the element with that index, and the scale of its block
abbrev pub IsScaledAt : Dequantization → Constants → List ℕ → List ℕ → ℕ → List ℕ → Outcome
    → Type 0
IsScaledAt q d scales codes index bytes outcome =
    IsScaledCode q.format d q.round (get_or scales (index / q.length) 0) (get_or codes index 0) bytes outcome

-- each element is multiplied, in its place
pub record AreDequantized (q : Dequantization) (d : Constants) (width : ℕ) (scales codes values : List ℕ)
    (counts : Counts) : Type 0 where
  pub outcomes : List Outcome
  pub places : AreInPlaces (IsScaledAt q d scales codes) width (length codes) values outcomes
  pub counted : counts ≡ counts_of outcomes

-- the values before and after the call; nothing is written with an error
abbrev pub IsDequantizedArray : Dequantization → Result ℕ ArrayError → List ℕ → List ℕ → List ℕ
    → List ℕ → Result Counts ArrayError → Type 0
IsDequantizedArray q (Ok count) scales codes before after (Ok counts) =
    AreNarrow q.format scales codes
    × AreDequantized q (flagged_constants q.target) (width_out q) scales codes after counts
IsDequantizedArray q (Ok count) scales codes before after (Err CodeTooWide) =
    AreWide q.format scales codes × (after ≡ before)
IsDequantizedArray q (Err error) scales codes before after (Err other) = (other ≡ error) × (after ≡ before)
IsDequantizedArray q known scales codes before after answer = ⊥
