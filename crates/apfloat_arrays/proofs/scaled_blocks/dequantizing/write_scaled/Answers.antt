use Rattle.std.proofs.Common.{length}
use Rattle.apfloat_arrays.proofs.LittleEndian.{fits}
use Rattle.apfloat_arrays.proofs.scaled_blocks.dequantizing.write_scaled.Goals as goal

pub write_number-requires : goal.write_number-requires
write_number-requires g c = fits c.to_bits.result _ (length c.args.bytes.now) c.to_bits.ensures.written.below
    c.requires.bytes
