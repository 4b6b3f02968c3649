-- Blocks of NVFP4: elements e2m1fn, a scale of e4m3fn for each block, and a single for the whole tensor.
use Rattle.std.specs.Prelude.{if◌then◌else◌, ◌≡◌, ◌⊎◌, ℕ, ◌+◌, ◌*◌, ◌^◌, ◌<◌}
use Rattle.std.specs.Prelude.{◌≤◌, Bool, true, false, not, ◌&&◌, eqb, leb, ltb, max, List, length, All, Any}
use Rattle.std.specs.{Prelude.Result, Prelude.Ok, Prelude.Err, Bool.MatchBool}
use Rattle.apfloat_model.specs.declared.kinds.Round.{Round, TheVariants.NearestTiesToEven}
use Rattle.apfloat_model.specs.formats.Datum.{Datum, finite, infinite, nan}
use Rattle.apfloat_model.specs.formats.{Format.Format, Formats.single_constants, Lawful.format_with, Nan.qnan}
use Rattle.apfloat_model.specs.order.Classes.{is_negative, is_zero, quanta_of}
use Rattle.apfloat_model.specs.rounding.{Answer.IsAnswer, Rounding.IsDelivered, Rounding.IsPick, Rounding.ok_bits}
use Rattle.small_formats.specs.{Conversions.saturated_value, declared.blocks.counts.Counts.Counts}
use Rattle.small_formats.specs.declared.blocks.elements.ElementFormat.TheVariants.{E2M1FN, E4M3FN}
use Rattle.small_formats.specs.declared.blocks.nvfp4_errors.Nvfp4Error.{Nvfp4Error}
use Rattle.small_formats.specs.declared.blocks.nvfp4_errors.Nvfp4Error.TheVariants.{Empty, Lengths, TensorScale}
use Rattle.small_formats.specs.declared.blocks.nvfp4_errors.Nvfp4Error.TheVariants.{BlockScale, CodeTooWide, NotFinite}
use Rattle.small_formats.specs.{declared.blocks.mx.Block.Block, blocks.Elements.IsQuotientBy}
use Rattle.small_formats.specs.blocks.{Elements.element_datum, Elements.format_of_element, Magnitudes.are_finite}
use Rattle.small_formats.specs.blocks.{Magnitudes.greatest_magnitude, MxBlocks.IsBlockOfNan, Places.AreCounted}

abbrev pub single_format : Format
single_format = format_with single_constants

abbrev pub scale_in : Format
scale_in = format_of_element E4M3FN

-- ---- scales

-- a value, or another in place of zero
abbrev pub unless_zero : Datum → Datum → Datum
unless_zero x other = if is_zero x then other else x

-- The magnitude amount / parts quanta of g, rounded once and saturated, and `least` quanta in place of 0.
pub record IsScaleIn (g : Format) (mode : Round) (amount parts least : ℕ) (scale : Datum) : Type 0 where
  pub pick : ℕ
  pub is_pick : IsPick g.precision mode false amount parts pick
  pub is : scale ≡ unless_zero (saturated_value g false pick) (finite false least)

-- The largest number that a scale and an element make, 448 * 6.
abbrev pub most : ℕ
most = 2688

-- Of a tensor whose greatest magnitude is that many quanta of f: that over 2688, to nearest, and 1 in place of 0.
abbrev pub IsTensorScale : Format → ℕ → Datum → Type 0
IsTensorScale f greatest scale =
    IsScaleIn single_format NearestTiesToEven (greatest * 2 ^ single_format.scale) (2 ^ f.scale * most)
    (2 ^ single_format.scale) scale

pub record IsScaledTensor (f : Format) (values : List Datum) (answer : Result Datum Nvfp4Error) : Type 0 where
  pub scale : Datum
  pub is : answer ≡ Ok scale
  pub is_scale : IsTensorScale f (greatest_magnitude values) scale

abbrev pub IsTensorAnswer : Format → List Datum → Result Datum Nvfp4Error → Type 0
IsTensorAnswer f values answer = MatchBool (are_finite values) (IsScaledTensor f values answer) (answer ≡ Err NotFinite)

abbrev pub nan_scale : ℕ
nan_scale = 127

-- the quanta of a scale
abbrev pub scale_quanta : ℕ → ℕ
scale_quanta code = quanta_of (element_datum E4M3FN code)

-- The scale of a block whose greatest magnitude is that many quanta of f, and not 0: that divided by 6 and by the scale
-- of the tensor, rounded once, and the least number in place of 0.
abbrev pub IsScaleOfSome : Format → Round → ℕ → ℕ → Datum → Type 0
IsScaleOfSome f mode tensor greatest scale =
    IsScaleIn scale_in mode (greatest * 2 ^ (scale_in.scale + single_format.scale)) (2 ^ f.scale * (6 * tensor)) 1
    scale

-- the code of that scale, and 0 for a block of zeros
abbrev pub IsNvScale : Format → Round → ℕ → ℕ → ℕ → Type 0
IsNvScale f mode tensor greatest code =
    (code < nan_scale)
    × MatchBool (eqb greatest 0) (code ≡ 0) (IsScaleOfSome f mode tensor greatest (element_datum E4M3FN code))

-- ---- errors

-- nothing is written, and the error is returned
abbrev pub IsRefused : {A X : Type 0} → Nvfp4Error → List X → List X → Result A Nvfp4Error → Type 0
IsRefused error before after answer = (after ≡ before) × (answer ≡ Err error)

-- a number above zero
abbrev pub is_positive : Datum → Bool
is_positive (finite b n) = not b && ltb 0 n
is_positive (infinite b) = false
is_positive (nan b s) = false

-- ---- into a block

-- Each element is the exact quotient by the product of both scales, rounded once. Zeros, whose scale is 0, are divided
-- by the least one.
pub record IsNvBlockOfNumbers (f : Format) (mode : Round) (tensor : ℕ) (values : List Datum) (codes : List ℕ)
    (block : Block) : Type 0 where
  pub scale_is : IsNvScale f mode tensor (greatest_magnitude values) block.scale
  pub elements : AreCounted (λ x code status. IsQuotientBy E2M1FN f mode (max 1 (scale_quanta block.scale) * tensor)
      (2 ^ (scale_in.scale + single_format.scale)) x code status) values codes block.counts
  pub finite_is : block.is_finite ≡ true

abbrev pub IsNvBlock : Format → Round → ℕ → List Datum → List ℕ → Block → Type 0
IsNvBlock f mode tensor values codes block =
    MatchBool (are_finite values) (IsNvBlockOfNumbers f mode tensor values codes block)
    (IsBlockOfNan nan_scale values codes block)

pub record IsNvWritten (f : Format) (mode : Round) (tensor : ℕ) (values : List Datum) (after : List ℕ)
    (answer : Result Block Nvfp4Error) : Type 0 where
  pub block : Block
  pub is : answer ≡ Ok block
  pub is_block : IsNvBlock f mode tensor values after block

-- the answer of a call, and the codes before and after it; the first error is returned
abbrev pub IsNvQuantized : Format → Round → Datum → List Datum → List ℕ → List ℕ → Result Block Nvfp4Error → Type 0
IsNvQuantized f mode tensor values before after answer =
    MatchBool (eqb (length values) 0) (IsRefused Empty before after answer)
    (MatchBool (eqb (length before) (length values))
    (MatchBool (is_positive tensor) (IsNvWritten f mode (quanta_of tensor) values after answer)
    (IsRefused TensorScale before after answer))
    (IsRefused Lengths before after answer))

-- ---- out of a block

-- The product of element, scale and tensor's scale, exact and then rounded once to the format g. If the scale is the
-- NaN, each value is the NaN without a payload, and no flag is raised.
abbrev pub IsNvScaled : Format → Round → ℕ → ℕ → ℕ → Datum → ℕ → Type 0
IsNvScaled g mode tensor scale code value status =
    let element = element_datum E2M1FN code in
    MatchBool (eqb scale nan_scale) (IsAnswer (qnan g 0) ok_bits value status)
    (IsDelivered g mode (is_negative element) (quanta_of element * (scale_quanta scale * tensor) * 2 ^ g.scale)
    (2 ^ ((format_of_element E2M1FN).scale + (scale_in.scale + single_format.scale))) value status)

pub record IsNvRead (g : Format) (mode : Round) (tensor scale : ℕ) (codes : List ℕ) (after : List Datum)
    (answer : Result Counts Nvfp4Error) : Type 0 where
  pub counts : Counts
  pub is : answer ≡ Ok counts
  pub narrow : All (λ code. code < 16) codes
  pub elements : AreCounted (λ code value status. IsNvScaled g mode tensor scale code value status) codes after counts

pub record IsTooWide (codes : List ℕ) (before after : List Datum) (answer : Result Counts Nvfp4Error) : Type 0 where
  pub wide : Any (λ code. 16 ≤ code) codes
  pub refused : IsRefused CodeTooWide before after answer

abbrev pub IsNvDequantized : Format → Round → Datum → ℕ → List ℕ → List Datum → List Datum
    → Result Counts Nvfp4Error → Type 0
IsNvDequantized g mode tensor scale codes before after answer =
    MatchBool (eqb (length codes) 0) (IsRefused Empty before after answer)
    (MatchBool (eqb (length before) (length codes))
    (MatchBool (is_positive tensor)
    (MatchBool (leb scale nan_scale)
    (IsNvRead g mode (quanta_of tensor) scale codes after answer ⊎ IsTooWide codes before after answer)
    (IsRefused BlockScale before after answer))
    (IsRefused TensorScale before after answer))
    (IsRefused Lengths before after answer))
