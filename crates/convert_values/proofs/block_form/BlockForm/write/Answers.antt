use Rattle.std.proofs.Common.{arith}
use Rattle.convert_values.proofs.BlockBytes.{scale_and_codes}
use Rattle.convert_values.proofs.block_form.BlockForm.write.Goals as goal

pub returns : goal.returns
returns c = record {
  packed = c.pack.new.bytes;
  are_packed = c.pack.ensures;
  bytes_are = scale_and_codes c.args.scale c.args.bytes.now c.pack.new.bytes (omega (arith, c.requires.bytes));
}
