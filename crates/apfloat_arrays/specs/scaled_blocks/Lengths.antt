-- The lengths of arrays.
use Rattle.std.specs.Prelude.{ℕ, ◌/◌, ◌%◌, ◌==◌, ◌&&◌, if◌then◌else◌, Result, Ok, Err}
use Rattle.apfloat_arrays.specs.declared.scaled_blocks.errors.ArrayError.{ArrayError, TheVariants.EmptyBlock}
use Rattle.apfloat_arrays.specs.declared.scaled_blocks.errors.ArrayError.TheVariants.{Uneven, Lengths, TensorScale}
use Rattle.apfloat_arrays.specs.declared.scaled_blocks.formats.BlockFormat.{BlockFormat}
use Rattle.apfloat_arrays.specs.scaled_blocks.Formats.{has_scale}

-- whether there are as many codes as values, and as many scales as blocks
abbrev pub if_matching : ℕ → ℕ → ℕ → ℕ → Result ℕ ArrayError
if_matching block count scales codes =
    if (codes == count) && (scales == count / block) then Ok scales else Err Lengths

-- How many blocks there are, or the first fault: of blocks of so many elements, of values of so many bytes, and of so
-- many bytes of values, scales and codes.
abbrev pub blocks_of : ℕ → ℕ → ℕ → ℕ → ℕ → Result ℕ ArrayError
blocks_of block width values scales codes =
    if block == 0 then Err EmptyBlock
    else if values % width == 0 then
    (if values / width % block == 0 then if_matching block (values / width) scales codes else Err Uneven)
    else Err Lengths

-- the same, if the tensor has a scale
abbrev pub if_scaled : BlockFormat → Result ℕ ArrayError → Result ℕ ArrayError
if_scaled format (Ok blocks) = if has_scale format then Ok blocks else Err TensorScale
if_scaled format (Err error) = Err error

abbrev pub blocks_in : BlockFormat → ℕ → ℕ → ℕ → ℕ → ℕ → Result ℕ ArrayError
blocks_in format block width values scales codes = if_scaled format (blocks_of block width values scales codes)
