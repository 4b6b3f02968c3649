use Rattle.apfloat_arrays.proofs.stored_lemmas.ByModeOnce.{AreOnce}
use Rattle.arrays_for_c.proofs.ArraysOnce.{converted_array_once, mapped_array_once}
use Rattle.arrays_for_c.proofs.BlocksOnce.{dequantized_call_once, packed_call_once, quantized_call_once}
use Rattle.arrays_for_c.proofs.BlocksOnce.{unpacked_call_once}
use Rattle.arrays_for_c.proofs.ExactSums.{dot_blocks_call_once, reduced_call_once}
use Rattle.arrays_for_c.proofs.StorageModesOnce.{mode_array_once, mode_reply_once}
use Rattle.arrays_for_c.proofs.StorageOnce.{operation_reply_once, storage_reply_once}
use Rattle.arrays_for_c.proofs.one_answer.one_answer.Goals as goal

pub returns : goal.returns
returns c =
    let once : AreOnce =
    record {
      elements = c.conversions_by_mode_have_one_answer.ensures;
      e3m4 = c.e3m4_conversions_by_mode_have_one_answer.ensures;
      scales = c.scales_by_mode_have_one_answer.ensures;
      unsigned = c.unsigned_conversions_by_mode_have_one_answer.ensures;
    } in
    record {
      converted = converted_array_once;
      mapped = mapped_array_once;
      reduced = reduced_call_once;
      block_dots = dot_blocks_call_once c.block_dots_have_one_answer.ensures;
      stored = storage_reply_once;
      operated = operation_reply_once c.stored_results_have_one_answer.ensures;
      stored_by_mode = mode_reply_once once;
      array_by_mode = mode_array_once once;
      quantized = quantized_call_once;
      dequantized = dequantized_call_once;
      packed = packed_call_once c.packed_codes_have_one_answer.ensures;
      unpacked = unpacked_call_once c.packed_codes_have_one_answer.ensures;
    }
