-- Arrays in blocks have one answer.
use Rattle.std.specs.Prelude.{◌≡◌, ℕ, List, length, Result}
use Rattle.apfloat_arrays.specs.declared.{counts.Counts.Counts, scaled_blocks.errors.ArrayError.ArrayError}
use Rattle.apfloat_arrays.specs.declared.scaled_blocks.dequantizing.Dequantization.{Dequantization}
use Rattle.apfloat_arrays.specs.{declared.scaled_blocks.quantizing.Quantization.Quantization, Bytes.AreBytes}
use Rattle.apfloat_arrays.specs.scaled_blocks.Dequantized.{IsDequantizedArray, width_out}
use Rattle.apfloat_arrays.specs.scaled_blocks.{Lengths.blocks_in, Quantized.IsQuantizedArray, Quantized.width_in}

-- what a call leaves in lent bytes: as many
pub record AreLeftIn (before after : List ℕ) : Type 0 where
  pub are_bytes : AreBytes after
  pub size : length after ≡ length before

-- the scales, the codes and the answer
abbrev pub IsQuantizedArrayOnce : Type 0
IsQuantizedArrayOnce =
    (q : Quantization) (values before scales other_scales old codes other : List ℕ)
    (answer reply : Result Counts ArrayError) → AreLeftIn old codes → AreLeftIn old other
    → IsQuantizedArray q (blocks_in q.format q.length (width_in q) (length values) (length before) (length old))
    values before
    scales old codes answer
    → IsQuantizedArray q (blocks_in q.format q.length (width_in q) (length values) (length before) (length old))
    values before
    other_scales old other reply
    → (scales ≡ other_scales) × (codes ≡ other) × (answer ≡ reply)

-- the values and the answer
abbrev pub IsDequantizedArrayOnce : Type 0
IsDequantizedArrayOnce =
    (q : Dequantization) (scales codes before after other : List ℕ) (answer reply : Result Counts ArrayError)
    → AreLeftIn before after → AreLeftIn before other
    → IsDequantizedArray q (blocks_in q.format q.length (width_out q) (length before) (length scales)
    (length codes)) scales
    codes before after answer
    → IsDequantizedArray q (blocks_in q.format q.length (width_out q) (length before) (length scales)
    (length codes)) scales
    codes before other reply
    → (after ≡ other) × (answer ≡ reply)
