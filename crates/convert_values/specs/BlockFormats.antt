-- Formats of blocks, as streams have them.
use Rattle.std.specs.Prelude.{◌≡◌, ℕ, ◌%◌, ◌^◌, true, List}
use Rattle.rustc_apfloat.specs.declared.Round.{TheVariants.NearestTiesToEven}
use Rattle.rustc_apfloat.specs.{Formats.single_constants, Lawful.format_with}
use Rattle.apfloat_decimals.specs.DecimalTexts.{IsDecimalReading}
use Rattle.apfloat_arrays.specs.declared.scaled_blocks.BlockFormat.{BlockFormat, TheVariants.Mx, TheVariants.Nvfp4}
use Rattle.apfloat_arrays.specs.scaled_blocks.Formats.{has_scale, tensor_of}
use Rattle.small_formats.specs.declared.blocks.ElementFormat.{ElementFormat, TheVariants.E2M1FN}

abbrev pub element_of : BlockFormat → ElementFormat
element_of (Mx element) = element
element_of (Nvfp4 tensor) = E2M1FN

-- how many elements a block has where nothing else is said
abbrev pub standard_length : BlockFormat → ℕ
standard_length (Mx element) = 32
standard_length (Nvfp4 tensor) = 16

-- the code of the scale in a byte; that of NVFP4 has seven bits
abbrev pub scale_in : BlockFormat → ℕ → ℕ
scale_in (Mx element) byte = byte
scale_in (Nvfp4 tensor) byte = byte % 2 ^ 7

-- the bits of a positive single: the number that the word spells, rounded to nearest
pub record IsTensorScale (word : List ℕ) (bits : ℕ) : Type 0 where
  pub status : ℕ
  pub is_read : IsDecimalReading (format_with single_constants) NearestTiesToEven word (tensor_of bits) status
  pub is_positive : has_scale (Nvfp4 bits) ≡ true
