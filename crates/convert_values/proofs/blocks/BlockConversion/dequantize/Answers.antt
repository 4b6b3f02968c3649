use Rattle.std.proofs.Common.{rules, refl}
use Rattle.apfloat_arrays.specs.declared.Extended.TheVariants.{Packed}
use Rattle.apfloat_arrays.proofs.WidthBounds.{width_room}
use Rattle.formats_at_run_time.specs.declared.FlaggedFormat.TheVariants.{BuiltIn}
use Rattle.convert_values.proofs.{BlockLengths.dequantized, BlockLengths.one_block_of, NarrowCodes.read_narrow}
use Rattle.convert_values.proofs.blocks.BlockConversion.dequantize.Goals as goal

pub unwrap-requires : goal.unwrap-requires
unwrap-requires c =
    let self = c.args.self in
    dequantized
    (record {
      format = self.form.format;
      length = self.form.length;
      target = BuiltIn self.format;
      round = self.round;
    })
    _ _ _ _ _ _
    (one_block_of self.form.format _ _ _ _ _ self.form.scaled self.form.some (width_room self.format Packed).least
    c.requires.values refl (search rules))
    (read_narrow self.form.format _ _ _ c.scale_in-scale.ensures c.read.ensures.are_packed.codes_fit)
    c.dequantize.ensures
