-- Theorems about blocks.
use Rattle.std.specs.Prelude.{◌≡◌, ℕ, ◌+◌, ◌*◌, ◌^◌, ◌<◌, ◌≤◌, Bool, true, List, Result}
use Rattle.apfloat_model.specs.{Determined.Determines, Determined.DeterminesBoth, declared.kinds.Round.Round}
use Rattle.apfloat_model.specs.formats.{Datum.Datum, Datum.finite, Format.Format}
use Rattle.apfloat_model.specs.formats.Formats.{bfloat_constants, double_constants, single_constants}
use Rattle.apfloat_model.specs.{formats.Lawful.format_with, order.Classes.is_finite, rounding.Rounding.ok_bits}
use Rattle.small_formats.specs.Scales.{largest_code, nan_code, scale_format}
use Rattle.small_formats.specs.declared.blocks.{counts.Counts.Counts, elements.ElementFormat.ElementFormat}
use Rattle.small_formats.specs.declared.blocks.{errors.BlockError.BlockError, mx.Block.Block}
use Rattle.small_formats.specs.declared.blocks.mx_scales.ScaleRule.{ScaleRule}
use Rattle.small_formats.specs.blocks.Elements.{element_datum, format_of_element, max_exp, width}
use Rattle.small_formats.specs.blocks.MxBlocks.{IsDequantized, IsQuantizedBy, IsScaled}
use Rattle.small_formats.specs.blocks.Nvfp4.{IsNvDequantized, IsNvQuantized, IsTensorAnswer}

-- quantizing has one result: the codes, and the answer, which is the scale and the counts, or the error
abbrev pub IsQuantizedOnce : Type 0
IsQuantizedOnce =
    (rule : ScaleRule) (element : ElementFormat) (f : Format) (mode : Round) (values : List Datum)
    (before after other : List ℕ) (answer reply : Result Block BlockError)
    → IsQuantizedBy rule element f mode values before after answer
    → IsQuantizedBy rule element f mode values before other reply → (after ≡ other) × (answer ≡ reply)

-- dequantizing has one result: the values, and the answer, which is the counts or the error
abbrev pub IsDequantizedOnce : Type 0
IsDequantizedOnce =
    (element : ElementFormat) (g : Format) (mode : Round) (scale : ℕ) (codes : List ℕ)
    (before after other : List Datum) (answer reply : Result Counts BlockError)
    → IsDequantized element g mode scale codes before after answer
    → IsDequantized element g mode scale codes before other reply → (after ≡ other) × (answer ≡ reply)

-- ---- values that are exact

-- The value is the number of the element times the scale, with its sign, and no flag is raised.
pub record IsExactlyScaled (element : ElementFormat) (g : Format) (scale code : ℕ) (value : Datum) (status : ℕ)
    : Type 0 where
  pub negative : Bool
  pub quanta : ℕ
  pub number : ℕ
  pub element_is : element_datum element code ≡ finite negative number
  pub value_is : value ≡ finite negative quanta
  pub same : quanta * 2 ^ ((format_of_element element).scale + scale_format.scale) ≡ number * 2 ^ scale * 2 ^ g.scale
  pub status_is : status ≡ ok_bits

-- the format g has each number of the element format, times that scale
abbrev pub IsExactInto : Format → ElementFormat → ℕ → Type 0
IsExactInto g element scale =
    (mode : Round) (code : ℕ) (value : Datum) (status : ℕ)
    → code < 2 ^ width element → is_finite (element_datum element code) ≡ true
    → IsScaled element g mode scale code value status → IsExactlyScaled element g scale code value status

abbrev pub IsExactIntoDouble : Type 0
IsExactIntoDouble =
    (element : ElementFormat) (scale : ℕ) → scale < nan_code
    → IsExactInto (format_with double_constants) element scale

-- below 2 ^ 128: the exponent of the scale and that of the largest element are together at most 127
abbrev pub IsExactIntoSingle : Type 0
IsExactIntoSingle =
    (element : ElementFormat) (scale : ℕ) → scale + max_exp element ≤ largest_code
    → IsExactInto (format_with single_constants) element scale

-- the same, if the quantum of the elements times the scale is a number of bfloat
abbrev pub IsExactIntoBFloat : Type 0
IsExactIntoBFloat =
    (element : ElementFormat) (scale : ℕ) → scale + max_exp element ≤ largest_code
    → (format_of_element element).scale + scale_format.scale ≤ scale + (format_with bfloat_constants).scale
    → IsExactInto (format_with bfloat_constants) element scale

-- ---- NVFP4

-- the scale of a tensor, or the error
abbrev pub IsTensorOnce : Type 0
IsTensorOnce = (f : Format) (values : List Datum) → Determines (IsTensorAnswer f values)

-- the codes and the answer
abbrev pub IsNvQuantizedOnce : Type 0
IsNvQuantizedOnce =
    (f : Format) (mode : Round) (tensor : Datum) (values : List Datum) (before : List ℕ)
    → DeterminesBoth (IsNvQuantized f mode tensor values before)

-- the values and the answer
abbrev pub IsNvDequantizedOnce : Type 0
IsNvDequantizedOnce =
    (g : Format) (mode : Round) (tensor : Datum) (scale : ℕ) (codes : List ℕ) (before : List Datum)
    → DeterminesBoth (IsNvDequantized g mode tensor scale codes before)
