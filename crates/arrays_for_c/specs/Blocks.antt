-- Calls on arrays in blocks with a common scale.
use Rattle.std.specs.Prelude.{◌≡◌, ℕ, ◌-◌, ◌==◌, ltb, ⊤, if◌then◌else◌, List, length, Option}
use Rattle.std.specs.Prelude.{Some, None, ok_or, Result, Ok, Err}
use Rattle.rustc_apfloat.specs.declared.Round.{Round}
use Rattle.formats_at_run_time.specs.declared.FlaggedKind.{FlaggedKind, TheVariants.OfFormat, TheVariants.Pairs}
use Rattle.formats_at_run_time.specs.{FlaggedKinds.format_without_rule, Modes.mode_coded}
use Rattle.apfloat_arrays.specs.declared.{Counts.Counts, scaled_blocks.ArrayError.ArrayError}
use Rattle.apfloat_arrays.specs.declared.scaled_blocks.ArrayError.TheVariants.{TensorScale, CodeTooWide}
use Rattle.apfloat_arrays.specs.declared.scaled_blocks.BlockFormat.{BlockFormat, TheVariants.Mx, TheVariants.Nvfp4}
use Rattle.apfloat_arrays.specs.declared.scaled_blocks.{Quantization.Quantization, Dequantization.Dequantization}
use Rattle.apfloat_arrays.specs.scaled_blocks.Dequantized.{IsDequantizedArray, width_out}
use Rattle.apfloat_arrays.specs.scaled_blocks.{Lengths.blocks_in, Quantized.IsQuantizedArray, Quantized.width_in}
use Rattle.small_formats.specs.declared.packing.PackingError.{PackingError}
use Rattle.small_formats.specs.declared.packing.PackingError.TheVariants.{CodeTooWide as WideCode}
use Rattle.small_formats.specs.declared.blocks.ScaleRule.{ScaleRule, TheVariants.Floor, TheVariants.Ceil}
use Rattle.small_formats.specs.declared.blocks.{ScaleRule.TheVariants.Even, ElementFormat.ElementFormat}
use Rattle.small_formats.specs.declared.blocks.ElementFormat.TheVariants.{E5M2, E4M3FN, E3M2FN, E2M3FN, E2M1FN}
use Rattle.small_formats.specs.packing.Packed.{IsPackedBy, IsUnpackedBy}
use Rattle.arrays_for_c.specs.{declared.array_data.ArrayAnswer.ArrayAnswer, Arrays.answer_with}
use Rattle.coded_calls.specs.KnownCalls.{◌>>=◌, answered, no_such_operation, unknown_format, unknown_mode, wrong_length}
use Rattle.coded_calls.specs.MachineCalls.{wide_operand}

-- ---- codes

abbrev pub element_coded : ℕ → Option ElementFormat
element_coded code =
    if code == 6 then Some E5M2
    else if code == 7 then Some E4M3FN
    else if code == 32 then Some E2M1FN
    else if code == 33 then Some E2M3FN
    else if code == 34 then Some E3M2FN
    else None

abbrev pub mx_of : Option ElementFormat → Option BlockFormat
mx_of (Some element) = Some (Mx element)
mx_of None = None

abbrev pub mx_coded : ℕ → Option BlockFormat
mx_coded code = mx_of (element_coded code)

abbrev pub nvfp4_coded : ℕ → Option BlockFormat
nvfp4_coded tensor = Some (Nvfp4 tensor)

-- the rule of scales and the mode of a code, to which 0x1000 is added for the least scale, and 0x2000 for the even one
abbrev pub with_rule : ScaleRule → Option Round → Option (ScaleRule × Round)
with_rule rule (Some round) = Some (rule, round)
with_rule rule None = None

abbrev pub rule_coded : ℕ → Option (ScaleRule × Round)
rule_coded code =
    if ltb code 4096 then with_rule Floor (mode_coded code)
    else if ltb code 8192 then with_rule Ceil (mode_coded (code - 4096))
    else with_rule Even (mode_coded (code - 8192))

abbrev pub array_error : ArrayError → ℕ
array_error CodeTooWide = wide_operand
array_error TensorScale = no_such_operation
array_error error = wrong_length

abbrev pub packing_error : PackingError → ℕ
packing_error WideCode = wide_operand
packing_error error = wrong_length

-- ---- what is asked for

abbrev pub quantization_of : FlaggedKind → ScaleRule × Round → BlockFormat → ℕ → Result Quantization ℕ
quantization_of (OfFormat format) (rule, round) blocks length =
    Ok (record {
      source = format_without_rule format;
      format = blocks;
      rule = rule;
      length = length;
      round = round;
    })
quantization_of Pairs (rule, round) blocks length = Err no_such_operation

-- The faults in their order: both formats, the mode, that there are no blocks of pairs.
abbrev pub known_quantization : Option FlaggedKind → Option (ScaleRule × Round) → Option BlockFormat → ℕ
    → Result Quantization ℕ
known_quantization kind mode format block =
    ok_or kind unknown_format >>= λ known. ok_or format unknown_format >>= λ blocks.
    ok_or mode unknown_mode >>= λ round. quantization_of known round blocks block

abbrev pub dequantization_of : BlockFormat → Round → FlaggedKind → ℕ → Result Dequantization ℕ
dequantization_of blocks round (OfFormat target) length =
    Ok (record { format = blocks; length = length; target = target; round = round })
dequantization_of blocks round Pairs length = Err no_such_operation

abbrev pub known_dequantization : Option BlockFormat → Option Round → Option FlaggedKind → ℕ
    → Result Dequantization ℕ
known_dequantization format mode kind block =
    ok_or format unknown_format >>= λ blocks. ok_or kind unknown_format >>= λ known.
    ok_or mode unknown_mode >>= λ round. dequantization_of blocks round known block

-- ---- what a call leaves

-- the code 0 and the counts, or the code of an error and the previous answer
abbrev pub IsReply : Result Counts ArrayError → ArrayAnswer → ArrayAnswer → ℕ → Type 0
IsReply (Ok counts) before after code =
    (code ≡ answered) × (after ≡ answer_with (record { counts = counts; div_by_zero = 0 }))
IsReply (Err error) before after code = (code ≡ array_error error) × (after ≡ before)

pub record IsQuantizedReply (q : Quantization) (values before scales old codes : List ℕ) (answer reply : ArrayAnswer)
    (code : ℕ) : Type 0 where
  pub made : Result Counts ArrayError
  pub is_made : IsQuantizedArray q (blocks_in q.format q.length (width_in q) (length values) (length before)
      (length old))
      values before scales old codes made
  pub is_reply : IsReply made answer reply code

abbrev pub IsQuantizedCall : Result Quantization ℕ → List ℕ → List ℕ → List ℕ → List ℕ → List ℕ
    → ArrayAnswer → ArrayAnswer → ℕ → Type 0
IsQuantizedCall (Ok q) values before scales old codes answer reply code =
    IsQuantizedReply q values before scales old codes answer reply code
IsQuantizedCall (Err error) values before scales old codes answer reply code =
    (code ≡ error) × (scales ≡ before) × (codes ≡ old) × (reply ≡ answer)

pub record IsDequantizedReply (q : Dequantization) (scales codes before after : List ℕ) (answer reply : ArrayAnswer)
    (code : ℕ) : Type 0 where
  pub made : Result Counts ArrayError
  pub is_made : IsDequantizedArray q (blocks_in q.format q.length (width_out q) (length before) (length scales)
      (length codes))
      scales codes before after made
  pub is_reply : IsReply made answer reply code

abbrev pub IsDequantizedCall : Result Dequantization ℕ → List ℕ → List ℕ → List ℕ → List ℕ
    → ArrayAnswer → ArrayAnswer → ℕ → Type 0
IsDequantizedCall (Ok q) scales codes before after answer reply code =
    IsDequantizedReply q scales codes before after answer reply code
IsDequantizedCall (Err error) scales codes before after answer reply code =
    (code ≡ error) × (after ≡ before) × (reply ≡ answer)

-- ---- packed codes

-- the code of what packing returned
abbrev pub packing_code : Result ⊤ PackingError → ℕ
packing_code (Ok done) = answered
packing_code (Err error) = packing_error error

-- what packing, or taking out, leaves, by the relation of what it returns
pub record IsPackingReply (Says : List ℕ → List ℕ → List ℕ → Result ⊤ PackingError → Type 0)
    (given before after : List ℕ) (code : ℕ) : Type 0 where
  pub made : Result ⊤ PackingError
  pub is_made : Says given before after made
  pub code_is : code ≡ packing_code made

-- codes of 4 and 6 bits alone are packed, in groups that fill whole bytes
abbrev pub IsPackingCall : (ℕ → ℕ → List ℕ → List ℕ → List ℕ → Result ⊤ PackingError → Type 0)
    → Option ElementFormat → List ℕ → List ℕ → List ℕ → ℕ → Type 0
IsPackingCall Says None given before after code = (code ≡ unknown_format) × (after ≡ before)
IsPackingCall Says (Some E5M2) given before after code = (code ≡ no_such_operation) × (after ≡ before)
IsPackingCall Says (Some E4M3FN) given before after code = (code ≡ no_such_operation) × (after ≡ before)
IsPackingCall Says (Some E3M2FN) given before after code = IsPackingReply (Says 6 4) given before after code
IsPackingCall Says (Some E2M3FN) given before after code = IsPackingReply (Says 6 4) given before after code
IsPackingCall Says (Some E2M1FN) given before after code = IsPackingReply (Says 4 2) given before after code

abbrev pub IsPackedCall : Option ElementFormat → List ℕ → List ℕ → List ℕ → ℕ → Type 0
IsPackedCall element codes before after code = IsPackingCall IsPackedBy element codes before after code

abbrev pub IsUnpackedCall : Option ElementFormat → List ℕ → List ℕ → List ℕ → ℕ → Type 0
IsUnpackedCall element bytes before after code = IsPackingCall IsUnpackedBy element bytes before after code
