-- Formats of blocks.
use Rattle.std.specs.Prelude.{ℕ, ◌^◌, ◌<◌, ◌≤◌, ◌⊎◌, ⊤, Bool, true, List, All, Any}
use Rattle.rustc_apfloat.specs.{declared.Round.Round, Datum.Datum, Formats.single_constants, Lawful.format_with}
use Rattle.apfloat_model.specs.{formats.Format.Format, order.Classes.quanta_of, order.Positive.IsPositive}
use Rattle.formats_at_run_time.specs.ValueKinds.{value_of}
use Rattle.small_formats.specs.{Scales.nan_code, declared.blocks.Block.Block, declared.blocks.ScaleRule.ScaleRule}
use Rattle.small_formats.specs.blocks.{Elements.width, MxBlocks.IsBlockBy, MxBlocks.IsScaled}
use Rattle.small_formats.specs.blocks.Nvfp4.{IsNvBlock, IsNvScaled, is_positive, nan_scale as nan_of_nvfp4}
use Rattle.apfloat_arrays.specs.declared.scaled_blocks.formats.BlockFormat.{BlockFormat}
use Rattle.apfloat_arrays.specs.declared.scaled_blocks.formats.BlockFormat.TheVariants.{Mx, Nvfp4}

abbrev pub nan_scale : BlockFormat → ℕ
nan_scale (Mx element) = nan_code
nan_scale (Nvfp4 tensor) = nan_of_nvfp4

-- ---- the scale of the tensor

-- it is a single, by its bits
abbrev pub tensor_of : ℕ → Datum
tensor_of bits = value_of single_constants bits

-- it is a positive number
abbrev pub has_scale : BlockFormat → Bool
has_scale (Mx element) = true
has_scale (Nvfp4 tensor) = is_positive (tensor_of tensor)

abbrev pub HasScale : BlockFormat → Type 0
HasScale (Mx element) = ⊤
HasScale (Nvfp4 tensor) = IsPositive (format_with single_constants) (tensor_of tensor)

-- ---- the bits of codes

abbrev pub IsNarrow : BlockFormat → ℕ → ℕ → Type 0
IsNarrow (Mx element) scale code = code < 2 ^ width element
IsNarrow (Nvfp4 tensor) scale code = (scale < 2 ^ 7) × (code < 2 ^ 4)

abbrev pub AreNarrow : BlockFormat → List ℕ → List ℕ → Type 0
AreNarrow (Mx element) scales codes = All (λ code. code < 2 ^ width element) codes
AreNarrow (Nvfp4 tensor) scales codes = All (λ scale. scale < 2 ^ 7) scales × All (λ code. code < 2 ^ 4) codes

abbrev pub AreWide : BlockFormat → List ℕ → List ℕ → Type 0
AreWide (Mx element) scales codes = Any (λ code. 2 ^ width element ≤ code) codes
AreWide (Nvfp4 tensor) scales codes = Any (λ scale. 2 ^ 7 ≤ scale) scales ⊎ Any (λ code. 2 ^ 4 ≤ code) codes

-- ---- what a block and an element say

abbrev pub IsBlockIn : ScaleRule → BlockFormat → Format → Round → List Datum → List ℕ → Block → Type 0
IsBlockIn rule (Mx element) f mode values codes block = IsBlockBy rule element f mode values codes block
IsBlockIn rule (Nvfp4 tensor) f mode values codes block =
    IsNvBlock f mode (quanta_of (tensor_of tensor)) values codes block

abbrev pub IsScaledIn : BlockFormat → Format → Round → ℕ → ℕ → Datum → ℕ → Type 0
IsScaledIn (Mx element) g mode scale code value status = IsScaled element g mode scale code value status
IsScaledIn (Nvfp4 tensor) g mode scale code value status =
    IsNvScaled g mode (quanta_of (tensor_of tensor)) scale code value status
