-- Blocks that are dequantized exactly, and quantized again.
use Rattle.std.specs.Prelude.{◌≡◌, ◌⊎◌, ℕ, ◌+◌, ◌*◌, ◌^◌, ◌<◌, ◌≤◌, Bool, true, List, map, All, Ok, ⊤}
use Rattle.apfloat_model.specs.{declared.kinds.Round.Round, formats.Datum.Datum, formats.Datum.finite}
use Rattle.apfloat_model.specs.{order.Classes.is_finite, rounding.Rounding.ok_bits}
use Rattle.apfloat_model.specs.formats.{Format.Format, Formats.single_constants, Lawful.format_with, Members.IsMember}
use Rattle.small_formats.specs.Scales.{nan_code}
use Rattle.small_formats.specs.declared.blocks.{counts.Counts.Counts, elements.ElementFormat.ElementFormat}
use Rattle.small_formats.specs.declared.blocks.elements.ElementFormat.TheVariants.{E5M2, E4M3FN, E3M2FN, E2M3FN, E2M1FN}
use Rattle.small_formats.specs.declared.blocks.mx.Block.{Block}
use Rattle.small_formats.specs.blocks.{Laws.IsExactInto, Laws.IsExactlyScaled, Magnitudes.greatest_magnitude}
use Rattle.small_formats.specs.blocks.{MxBlocks.IsDequantized, MxBlocks.IsQuantized, Places.AreCounted}
use Rattle.small_formats.specs.blocks.Elements.{element_datum, format_of_element, max_exp, width}

-- each value is its element times the scale, and no flag is raised
abbrev pub AreExactlyScaled : ElementFormat → Format → ℕ → List ℕ → List Datum → Counts → Type 0
AreExactlyScaled element g scale codes values counts =
    AreCounted (λ code value status. IsExactlyScaled element g scale code value status) codes values counts

-- a block of finite elements, where the format has the products of all of them
abbrev pub IsExactBlock : Type 0
IsExactBlock =
    (element : ElementFormat) (g : Format) (mode : Round) (scale : ℕ) (codes : List ℕ) (old values : List Datum)
    (counts : Counts) → IsExactInto g element scale
    → All (λ code. is_finite (element_datum element code) ≡ true) codes
    → IsDequantized element g mode scale codes old values (Ok counts)
    → AreExactlyScaled element g scale codes values counts

-- what is quantized from singles comes back exactly in singles
abbrev pub IsExactFromSingles : Type 0
IsExactFromSingles =
    (element : ElementFormat) (mode other : Round) (singles values old : List Datum) (before codes : List ℕ)
    (block : Block) (counts : Counts)
    → All (λ x. IsMember (format_with single_constants) x) singles
    → IsQuantized element (format_with single_constants) mode singles before codes (Ok block)
    → block.is_finite ≡ true
    → IsDequantized element (format_with single_constants) other block.scale codes old values (Ok counts)
    → AreExactlyScaled element (format_with single_constants) block.scale codes values counts

-- ---- quantizing again

-- the greatest magnitude of the elements, in quanta of their format
abbrev pub greatest_element : ElementFormat → List ℕ → ℕ
greatest_element element codes = greatest_magnitude (map (λ code. element_datum element code) codes)

-- E4m3fn has no number 480, of the significand 15: that would have the code of the NaN. So a block whose greatest
-- element has that significand keeps its values only if its scale is too low to put that element there.
abbrev pub HasPlace : ElementFormat → ℕ → ℕ → Type 0
HasPlace E4M3FN scale greatest = (place : ℕ) → greatest ≡ 15 * 2 ^ place → place + scale < 14
HasPlace E5M2 scale greatest = ⊤
HasPlace E3M2FN scale greatest = ⊤
HasPlace E2M3FN scale greatest = ⊤
HasPlace E2M1FN scale greatest = ⊤

-- one value as an element of two blocks, with its sign, without a flag
pub record IsKept (element : ElementFormat) (scale other code again status : ℕ) : Type 0 where
  pub negative : Bool
  pub number : ℕ
  pub moved : ℕ
  pub element_is : element_datum element code ≡ finite negative number
  pub again_is : element_datum element again ≡ finite negative moved
  pub same : moved * 2 ^ other ≡ number * 2 ^ scale
  pub status_is : status ≡ ok_bits

-- The values are kept; so are the scale and the codes if the greatest element has the exponent of the largest number,
-- or if the scale is the least one.
pub record IsBlockAgain (element : ElementFormat) (scale : ℕ) (codes again : List ℕ) (block : Block) : Type 0 where
  pub finite_is : block.is_finite ≡ true
  pub kept : AreCounted (λ code other status. IsKept element scale block.scale code other status) codes again
      block.counts
  pub same : (2 ^ ((format_of_element element).scale + max_exp element) ≤ greatest_element element codes)
      ⊎ (scale ≡ 0) → (block.scale ≡ scale) × (again ≡ codes)

-- a block of finite elements, exactly in a format g, is quantized again in any mode
abbrev pub IsQuantizedAgain : Type 0
IsQuantizedAgain =
    (element : ElementFormat) (g : Format) (mode : Round) (scale : ℕ) (codes before again : List ℕ)
    (values : List Datum) (counts : Counts) (block : Block) → scale < nan_code
    → All (λ code. code < 2 ^ width element) codes → AreExactlyScaled element g scale codes values counts
    → HasPlace element scale (greatest_element element codes)
    → IsQuantized element g mode values before again (Ok block) → IsBlockAgain element scale codes again block
