-- Arrays quantized to blocks.
use Rattle.std.specs.Prelude.{◌≡◌, ℕ, ◌*◌, if◌then◌else◌, List, [], ◌∷◌, map, Result, Ok, Err}
use Rattle.rustc_apfloat.specs.Lawful.{format_with}
use Rattle.formats_at_run_time.specs.BuiltIns.{constants_in}
use Rattle.apfloat_arrays.specs.declared.{counts.Counts.Counts, widths.Extended.TheVariants.Packed}
use Rattle.apfloat_arrays.specs.declared.scaled_blocks.errors.ArrayError.{ArrayError}
use Rattle.apfloat_arrays.specs.{declared.scaled_blocks.quantizing.Quantization.Quantization, Blocks.AreInPlaces}
use Rattle.apfloat_arrays.specs.{Outcomes.sum_of, Widths.width_of}
use Rattle.apfloat_arrays.specs.scaled_blocks.{Formats.IsBlockIn, Values.values_in}
use Rattle.small_formats.specs.declared.blocks.Block.{Block}

-- how many bytes a value takes
abbrev pub width_in : Quantization → ℕ
width_in q = width_of q.source Packed

-- the counts of a block, each of whose elements is a NaN if its scale is
abbrev pub counts_with : ℕ → Block → Counts
counts_with length block =
    record {
      values = length;
      inexact = block.counts.inexact;
      underflow = block.counts.underflow;
      overflow = block.counts.overflow;
      invalid = block.counts.invalid;
      nans = if block.is_finite then 0 else length;
    }

abbrev pub no_counts : Counts
no_counts = record { values = 0; inexact = 0; underflow = 0; overflow = 0; invalid = 0; nans = 0 }

-- the counts of blocks, added to those before them
abbrev pub total_of : ℕ → Counts → List Block → Counts
total_of length before [] = before
total_of length before (block ∷ blocks) = total_of length (sum_of before (counts_with length block)) blocks

-- the values of the block with that index, its codes, and what stands beside them
abbrev pub IsBlockOf : Quantization → List ℕ → ℕ → List ℕ → Block → Type 0
IsBlockOf q values index codes block =
    IsBlockIn q.rule q.format (format_with (constants_in q.source)) q.round
    (values_in (constants_in q.source) (width_in q) values (index * q.length) q.length) codes block

-- each block is quantized, in its place
pub record AreQuantized (q : Quantization) (values : List ℕ) (count : ℕ) (scales codes : List ℕ) (counts : Counts)
    : Type 0 where
  pub blocks : List Block
  pub places : AreInPlaces (IsBlockOf q values) q.length count codes blocks
  pub scales_are : scales ≡ map (λ (block : Block). block.scale) blocks
  pub counted : counts ≡ total_of q.length no_counts blocks

-- the scales and codes before and after the call; nothing is written with an error
abbrev pub IsQuantizedArray : Quantization → Result ℕ ArrayError → List ℕ → List ℕ → List ℕ → List ℕ
    → List ℕ → Result Counts ArrayError → Type 0
IsQuantizedArray q (Ok count) values before scales old codes (Ok counts) =
    AreQuantized q values count scales codes counts
IsQuantizedArray q (Err error) values before scales old codes (Err other) =
    (other ≡ error) × (scales ≡ before) × (codes ≡ old)
IsQuantizedArray q (Ok count) values before scales old codes (Err other) = ⊥
IsQuantizedArray q (Err error) values before scales old codes (Ok counts) = ⊥
