-- Formats of blocks: what holds of both.
use Rattle.std.proofs.Common.{◌≡◌, ℕ, zero, suc, ◌*◌, ◌/◌, ◌<◌, true, false, List, length, get_or}
use Rattle.std.proofs.{Common.inl, Common.inr, Common.sym, Common.subst, Common.arith, Math.Nat.div-lt_iff_lt-mul}
use Rattle.apfloat_model.specs.{Determined.DeterminesBoth, formats.Format.Format}
use Rattle.apfloat_model.specs.order.{Classes.quanta_of, Positive.IsPositive}
use Rattle.apfloat_model.proofs.{Once.Once, general.Choices.match_false, general.Choices.match_true}
use Rattle.rustc_apfloat.specs.{declared.Round.Round, Datum.Datum, Formats.single_constants, Lawful.format_with}
use Rattle.small_formats.specs.declared.blocks.{Block.Block, ElementFormat.ElementFormat, ScaleRule.ScaleRule}
use Rattle.small_formats.specs.blocks.{Elements.width, Magnitudes.are_finite, MxBlocks.IsBlockOfNan}
use Rattle.small_formats.specs.blocks.{MxBlocks.IsBlockOfNumbers, Nvfp4.IsNvBlockOfNumbers}
use Rattle.small_formats.proofs.blocks_lemmas.OneBlock.{block_once, not_both, scaled_once}
use Rattle.small_formats.proofs.blocks_lemmas.OneNvBlock.{nv_block_once, nv_scaled_once}
use Rattle.apfloat_arrays.specs.declared.scaled_blocks.formats.BlockFormat.{BlockFormat}
use Rattle.apfloat_arrays.specs.declared.scaled_blocks.formats.BlockFormat.TheVariants.{Mx, Nvfp4}
use Rattle.apfloat_arrays.specs.scaled_blocks.Formats.{AreNarrow, AreWide, HasScale, IsBlockIn, IsNarrow, IsScaledIn}
use Rattle.apfloat_arrays.specs.scaled_blocks.Formats.{nan_scale, tensor_of}

-- the block of an element
pub div_below : (index blocks block : ℕ) → index < blocks * block → index / block < blocks
div_below index blocks zero l = absurd (omega (arith, l))
div_below index blocks (suc n) l = (div-lt_iff_lt-mul {k = suc n} {x = index} {y = blocks} (omega arith)).1 l

pub narrow_at : (format : BlockFormat) (scales codes : List ℕ) (block index : ℕ) → AreNarrow format scales codes
    → block < length scales → index < length codes → IsNarrow format (get_or scales block 0)
    (get_or codes index 0)
narrow_at (Mx element) scales codes block index narrow l k = narrow index 0 k
narrow_at (Nvfp4 tensor) scales codes block index narrow l k = (narrow.0 block 0 l, narrow.1 index 0 k)

pub not_both_in : (format : BlockFormat) (scales codes : List ℕ) → AreNarrow format scales codes
    → AreWide format scales codes → ⊥
not_both_in (Mx element) scales codes narrow wide = not_both (width element) codes narrow wide
not_both_in (Nvfp4 tensor) scales codes narrow (inl wide) = not_both 7 scales narrow.0 wide
not_both_in (Nvfp4 tensor) scales codes narrow (inr wide) = not_both 4 codes narrow.1 wide

pub block_in_once : (rule : ScaleRule) (format : BlockFormat) (f : Format) (mode : Round) (values : List Datum)
    → DeterminesBoth (IsBlockIn rule format f mode values)
block_in_once rule (Mx element) f mode values = block_once rule element f mode values
block_in_once rule (Nvfp4 tensor) f mode values = nv_block_once f mode (quanta_of (tensor_of tensor)) values

pub scaled_in_once : (format : BlockFormat) (g : Format) (mode : Round) (scale code : ℕ)
    → Once (IsScaledIn format g mode scale code)
scaled_in_once (Mx element) g mode scale code = scaled_once element g mode scale code
scaled_in_once (Nvfp4 tensor) g mode scale code = nv_scaled_once g mode (quanta_of (tensor_of tensor)) scale code

-- a block with an infinity or a NaN
pub nan_block : (rule : ScaleRule) (format : BlockFormat) (f : Format) (mode : Round) (values : List Datum)
    (codes : List ℕ) (block : Block)
    → are_finite values ≡ false → IsBlockOfNan (nan_scale format) values codes block
    → IsBlockIn rule format f mode values codes block
nan_block rule (Mx element) f mode values codes block e h = match_false _ _ _ e h
nan_block rule (Nvfp4 tensor) f mode values codes block e h = match_false _ _ _ e h

-- a block of numbers
pub mx_block : (rule : ScaleRule) (format : BlockFormat) (element : ElementFormat) (f : Format) (mode : Round)
    (values : List Datum) (codes : List ℕ) (block : Block) → format ≡ Mx element → are_finite values ≡ true
    → IsBlockOfNumbers rule element f mode values codes block → IsBlockIn rule format f mode values codes block
mx_block rule format element f mode values codes block same finite h =
    subst (λ (b : BlockFormat). IsBlockIn rule b f mode values codes block) (sym same) (match_true _ _ _ finite h)

pub nvfp4_block : (rule : ScaleRule) (format : BlockFormat) (tensor : ℕ) (scale : Datum) (f : Format) (mode : Round)
    (values : List Datum) (codes : List ℕ) (block : Block) → format ≡ Nvfp4 tensor → scale ≡ tensor_of tensor
    → are_finite values ≡ true → IsNvBlockOfNumbers f mode (quanta_of scale) values codes block
    → IsBlockIn rule format f mode values codes block
nvfp4_block rule format tensor scale f mode values codes block same is finite h =
    subst (λ (b : BlockFormat). IsBlockIn rule b f mode values codes block) (sym same)
    (match_true _ _ _ finite
    (subst (λ (x : Datum). IsNvBlockOfNumbers f mode (quanta_of x) values codes block) is h))

pub tensor_positive : (format : BlockFormat) (tensor : ℕ) (scale : Datum) → format ≡ Nvfp4 tensor
    → scale ≡ tensor_of tensor → HasScale format → IsPositive (format_with single_constants) scale
tensor_positive format tensor scale same is has =
    subst (λ (x : Datum). IsPositive (format_with single_constants) x) (sym is)
    (subst (λ (b : BlockFormat). HasScale b) same has)
