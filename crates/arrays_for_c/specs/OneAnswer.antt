-- What a call leaves in arrays is determined by its arguments: one code, and one array.
use Rattle.std.specs.Prelude.{◌≡◌, ℕ, List, length, Option, Result}
use Rattle.apfloat_arrays.specs.Bytes.{AreBytes}
use Rattle.apfloat_arrays.specs.declared.scaled_blocks.{Dequantization.Dequantization, Quantization.Quantization}
use Rattle.small_formats.specs.declared.blocks.ElementFormat.{ElementFormat}
use Rattle.arrays_for_c.specs.declared.array_calls.{KnownConversion.KnownConversion, MapCall.MapCall}
use Rattle.arrays_for_c.specs.declared.array_data.ArrayAnswer.{ArrayAnswer}
use Rattle.arrays_for_c.specs.Arrays.{IsConvertedArray, IsMappedArray}
use Rattle.arrays_for_c.specs.Blocks.{IsDequantizedCall, IsPackedCall, IsQuantizedCall, IsUnpackedCall}

-- what a call leaves in bytes that were lent, as in every `&mut [u8]`: the same number of them, each of them a byte
pub record IsLeftIn (old bytes : List ℕ) : Type 0 where
  pub are_bytes : AreBytes bytes
  pub size : length bytes ≡ length old

-- an array that is converted
abbrev pub IsConvertedArrayOnce : Type 0
IsConvertedArrayOnce =
    (known : Result KnownConversion ℕ) (given old first second : List ℕ) (before after also : ArrayAnswer)
    (code other : ℕ) → IsLeftIn old first → IsLeftIn old second
    → IsConvertedArray known given old first before after code
    → IsConvertedArray known given old second before also other
    → (code ≡ other) × (first ≡ second) × (after ≡ also)

-- an operation on arrays
abbrev pub IsMappedArrayOnce : Type 0
IsMappedArrayOnce =
    (known : Result MapCall ℕ) (xs ys zs old first second : List ℕ) (before after also : ArrayAnswer)
    (code other : ℕ) → IsLeftIn old first → IsLeftIn old second
    → IsMappedArray known xs ys zs old first before after code
    → IsMappedArray known xs ys zs old second before also other
    → (code ≡ other) × (first ≡ second) × (after ≡ also)

-- an array that is quantized to blocks
abbrev pub IsQuantizedCallOnce : Type 0
IsQuantizedCallOnce =
    (known : Result Quantization ℕ) (values before scales other_scales old first second : List ℕ)
    (answer after also : ArrayAnswer) (code other : ℕ) → IsLeftIn old first → IsLeftIn old second
    → IsQuantizedCall known values before scales old first answer after code
    → IsQuantizedCall known values before other_scales old second answer also other
    → (code ≡ other) × (scales ≡ other_scales) × (first ≡ second) × (after ≡ also)

-- an array that is taken out of blocks
abbrev pub IsDequantizedCallOnce : Type 0
IsDequantizedCallOnce =
    (known : Result Dequantization ℕ) (scales codes old first second : List ℕ) (before after also : ArrayAnswer)
    (code other : ℕ) → IsLeftIn old first → IsLeftIn old second
    → IsDequantizedCall known scales codes old first before after code
    → IsDequantizedCall known scales codes old second before also other
    → (code ≡ other) × (first ≡ second) × (after ≡ also)

-- codes that are packed into bytes
abbrev pub IsPackedCallOnce : Type 0
IsPackedCallOnce =
    (element : Option ElementFormat) (codes old first second : List ℕ) (code other : ℕ)
    → IsLeftIn old first → IsLeftIn old second
    → IsPackedCall element codes old first code → IsPackedCall element codes old second other
    → (code ≡ other) × (first ≡ second)

-- codes that are taken out of bytes
abbrev pub IsUnpackedCallOnce : Type 0
IsUnpackedCallOnce =
    (element : Option ElementFormat) (bytes old first second : List ℕ) (code other : ℕ)
    → IsLeftIn old first → IsLeftIn old second
    → IsUnpackedCall element bytes old first code → IsUnpackedCall element bytes old second other
    → (code ≡ other) × (first ≡ second)
