-- Blocks of the OCP's microscaling formats: elements of one format, and one scale for all of them.
use Rattle.std.specs.Prelude.{◌≡◌, ◌≢◌, ℕ, ◌^◌, ◌<◌, ◌≤◌, true, false, eqb, List, length, replicate, Result, Ok, Err}
use Rattle.std.specs.{Prelude.All, Prelude.Any, Bool.MatchBool}
use Rattle.apfloat_model.specs.{declared.kinds.Round.Round, formats.Datum.Datum, formats.Format.Format}
use Rattle.apfloat_model.specs.{formats.Nan.qnan, rounding.Answer.IsAnswer, rounding.Rounding.ok_bits}
use Rattle.apfloat_arithmetic.specs.other_formats.FormatOf.{IsProductTo}
use Rattle.small_formats.specs.Scales.{nan_code, scale_format, scale_of}
use Rattle.small_formats.specs.declared.blocks.{counts.Counts.Counts, elements.ElementFormat.ElementFormat}
use Rattle.small_formats.specs.declared.blocks.{errors.BlockError.TheVariants.CodeTooWide, mx.Block.Block}
use Rattle.small_formats.specs.declared.blocks.errors.BlockError.{BlockError, TheVariants.Empty, TheVariants.Lengths}
use Rattle.small_formats.specs.declared.blocks.mx_scales.ScaleRule.{ScaleRule, TheVariants.Floor}
use Rattle.small_formats.specs.blocks.{MxScales.IsScaleBy, Places.AreCounted, Places.counts_of}
use Rattle.small_formats.specs.blocks.Elements.{IsQuotientBy, element_datum, format_of_element, width}
use Rattle.small_formats.specs.blocks.Magnitudes.{are_finite, greatest_magnitude}

-- ---- into a block

-- the scale follows from the greatest magnitude, and each element is the exact quotient by it, rounded once
pub record IsBlockOfNumbers (rule : ScaleRule) (element : ElementFormat) (f : Format) (mode : Round)
    (values : List Datum) (codes : List ℕ) (block : Block) : Type 0 where
  pub scale_is : IsScaleBy rule element f (greatest_magnitude values) block.scale
  pub elements : AreCounted (λ x code status. IsQuotientBy element f mode (2 ^ block.scale) (2 ^ scale_format.scale) x
      code status) values codes block.counts
  pub finite_is : block.is_finite ≡ true

-- what the specification leaves open: the scale is the NaN, which has that code, and all elements are zero
pub record IsBlockOfNan (nan : ℕ) (values : List Datum) (codes : List ℕ) (block : Block) : Type 0 where
  pub scale_is : block.scale ≡ nan
  pub codes_are : codes ≡ replicate (length values) 0
  pub counted : block.counts ≡ counts_of (replicate (length values) ok_bits)
  pub finite_is : block.is_finite ≡ false

abbrev pub IsBlockBy : ScaleRule → ElementFormat → Format → Round → List Datum → List ℕ → Block → Type 0
IsBlockBy rule element f mode values codes block =
    MatchBool (are_finite values) (IsBlockOfNumbers rule element f mode values codes block)
    (IsBlockOfNan nan_code values codes block)

-- the answer of a call, and the codes before and after it: nothing is written with an error
abbrev pub IsQuantizedBy : ScaleRule → ElementFormat → Format → Round → List Datum → List ℕ → List ℕ
    → Result Block BlockError → Type 0
IsQuantizedBy rule element f mode values before after (Ok block) =
    (0 < length values) × (length before ≡ length values) × IsBlockBy rule element f mode values after block
IsQuantizedBy rule element f mode values before after (Err Empty) = (length values ≡ 0) × (after ≡ before)
IsQuantizedBy rule element f mode values before after (Err Lengths) =
    (0 < length values) × (length before ≢ length values) × (after ≡ before)
IsQuantizedBy rule element f mode values before after (Err CodeTooWide) = ⊥

-- by the rule of the specification
abbrev pub IsQuantized : ElementFormat → Format → Round → List Datum → List ℕ → List ℕ
    → Result Block BlockError → Type 0
IsQuantized = IsQuantizedBy Floor

-- ---- out of a block

-- The product of an element and the scale, exact and then rounded once to the format g. If the scale is the NaN, each
-- value is the NaN without a payload, and no flag is raised.
abbrev pub IsScaled : ElementFormat → Format → Round → ℕ → ℕ → Datum → ℕ → Type 0
IsScaled element g mode scale code value status =
    MatchBool (eqb scale nan_code) (IsAnswer (qnan g 0) ok_bits value status)
    (IsProductTo (format_of_element element) scale_format g mode (element_datum element code) (scale_of scale) value
    status)

abbrev pub IsDequantized : ElementFormat → Format → Round → ℕ → List ℕ → List Datum → List Datum
    → Result Counts BlockError → Type 0
IsDequantized element g mode scale codes before after (Ok counts) =
    (0 < length codes) × (length before ≡ length codes) × All (λ code. code < 2 ^ width element) codes
    × AreCounted (λ code value status. IsScaled element g mode scale code value status) codes after counts
IsDequantized element g mode scale codes before after (Err Empty) = (length codes ≡ 0) × (after ≡ before)
IsDequantized element g mode scale codes before after (Err Lengths) =
    (0 < length codes) × (length before ≢ length codes) × (after ≡ before)
IsDequantized element g mode scale codes before after (Err CodeTooWide) =
    (0 < length codes) × (length before ≡ length codes) × Any (λ code. 2 ^ width element ≤ code) codes
    × (after ≡ before)
