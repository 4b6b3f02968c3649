-- Streams of blocks with a common scale.
use Rattle.std.specs.Prelude.{◌≡◌, ℕ, ◌+◌, ◌*◌, ◌/◌, List, [], ◌∷◌}
use Rattle.formats_at_run_time.specs.{FlaggedKinds.flagged_constants, declared.FlaggedFormat.TheVariants.BuiltIn}
use Rattle.apfloat_arrays.specs.declared.{Counts.Counts, Extended.TheVariants.Packed, Widths.Widths}
use Rattle.apfloat_arrays.specs.declared.scaled_blocks.Dequantization.{Dequantization}
use Rattle.apfloat_arrays.specs.{declared.scaled_blocks.Quantization.Quantization, Blocks.AreInPlaces, Blocks.value_at}
use Rattle.apfloat_arrays.specs.{Outcomes.sum_of, Widths.width_of, scaled_blocks.Dequantized.AreDequantized}
use Rattle.apfloat_arrays.specs.scaled_blocks.{Dequantized.width_out, Quantized.AreQuantized, Quantized.no_counts}
use Rattle.small_formats.specs.declared.blocks.{ElementFormat.ElementFormat, ScaleRule.TheVariants.Floor}
use Rattle.small_formats.specs.{blocks.Elements.width, packing.Packed.ArePacked}
use Rattle.convert_values.specs.BlockFormats.{element_of, scale_in}
use Rattle.convert_values.specs.declared.{block_form.BlockForm.BlockForm, blocks.BlockConversion.BlockConversion}
use Rattle.convert_values.specs.declared.blocks.BlockWay.{BlockWay, TheVariants.Quantize, TheVariants.Dequantize}

-- ---- bytes

-- how many bytes the codes of a block take
abbrev pub packed_size : BlockForm → ℕ
packed_size form = width (element_of form.format) * form.length / 8

-- how many bytes a block takes, with its scale
abbrev pub block_size : BlockForm → ℕ
block_size form = 1 + packed_size form

-- the bytes of a block: its scale, and its packed codes
pub record IsBlockInBytes (element : ElementFormat) (scale : ℕ) (codes bytes : List ℕ) : Type 0 where
  pub packed : List ℕ
  pub are_packed : ArePacked (width element) codes packed
  pub bytes_are : bytes ≡ scale ∷ packed

-- how many bytes the values of a block take
abbrev pub values_size : BlockConversion → ℕ
values_size q = q.form.length * width_of q.format Packed

abbrev pub widths_by : BlockWay → ℕ → ℕ → Widths
widths_by Quantize values block = record { source = values; target = block }
widths_by Dequantize values block = record { source = block; target = values }

-- the widths in bytes of what is read, and of what is written for it
abbrev pub block_widths : BlockConversion → Widths
block_widths q = widths_by q.way (values_size q) (block_size q.form)

-- ---- one block

abbrev pub quantization_of : BlockConversion → Quantization
quantization_of q =
    record { source = q.format; format = q.form.format; rule = Floor; length = q.form.length; round = q.round }

abbrev pub dequantization_of : BlockConversion → Dequantization
dequantization_of q =
    record { format = q.form.format; length = q.form.length; target = BuiltIn q.format; round = q.round }

-- the values are quantized to the block in these bytes
pub record IsQuantizedIn (q : BlockConversion) (values bytes : List ℕ) (counts : Counts) : Type 0 where
  pub scale : ℕ
  pub codes : List ℕ
  pub is_quantized : AreQuantized (quantization_of q) values 1 (scale ∷ []) codes counts
  pub is_in_bytes : IsBlockInBytes (element_of q.form.format) scale codes bytes

-- the values are those of the block in these bytes
pub record IsDequantizedFrom (q : BlockConversion) (bytes values : List ℕ) (counts : Counts) : Type 0 where
  pub first : ℕ
  pub codes : List ℕ
  pub is_in_bytes : IsBlockInBytes (element_of q.form.format) first codes bytes
  pub is_dequantized : AreDequantized (dequantization_of q) (flagged_constants (BuiltIn q.format))
      (width_out (dequantization_of q)) (scale_in q.form.format first ∷ []) codes values counts

abbrev pub IsConvertedBy : BlockWay → BlockConversion → List ℕ → List ℕ → Counts → Type 0
IsConvertedBy Quantize q read written counts = IsQuantizedIn q read written counts
IsConvertedBy Dequantize q read written counts = IsDequantizedFrom q read written counts

-- what is read and written of a block, with its counts
abbrev pub IsConverted : BlockConversion → List ℕ → List ℕ → Counts → Type 0
IsConverted q read written counts = IsConvertedBy q.way q read written counts

-- ---- one block after another

-- the counts of blocks, added to those before them
abbrev pub total_of : Counts → List Counts → Counts
total_of before [] = before
total_of before (counts ∷ rest) = total_of (sum_of before counts) rest

-- each block is converted, in its place
pub record AreBlocksConverted (q : BlockConversion) (count : ℕ) (read written : List ℕ) (counts : Counts)
    : Type 0 where
  pub parts : List Counts
  pub places : AreInPlaces (λ index bytes part. IsConverted q (value_at (block_widths q).source index read) bytes part)
      (block_widths q).target count written parts
  pub counted : counts ≡ total_of no_counts parts
