use Rattle.std.proofs.Common.{rules, refl}
use Rattle.apfloat_arrays.specs.declared.Extended.TheVariants.{Packed}
use Rattle.apfloat_arrays.proofs.WidthBounds.{width_room}
use Rattle.convert_values.proofs.BlockLengths.{one_block_of, quantized, quantized_parts}
use Rattle.convert_values.proofs.NarrowCodes.{quantized_narrow}
use Rattle.convert_values.proofs.blocks.BlockConversion.quantize.Goals as goal

pub unwrap-counts-requires : goal.unwrap-counts-requires
unwrap-counts-requires c =
    quantized _ _ _ _ _ _ _ _
    (one_block_of c.args.self.form.format _ _ _ _ _ c.args.self.form.scaled c.args.self.form.some
    (width_room c.args.self.format Packed).least c.requires.values refl (search rules))
    c.quantize.ensures

pub write-requires-clause-narrow : goal.write-requires-clause-narrow
write-requires-clause-narrow c =
    quantized_narrow _ _ _ _ _ (search rules)
    (quantized_parts _ _ _ _ _ _ _ _ _
    (one_block_of c.args.self.form.format _ _ _ _ _ c.args.self.form.scaled c.args.self.form.some
    (width_room c.args.self.format Packed).least c.requires.values refl (search rules))
    c.unwrap-counts.ensures c.quantize.ensures)
