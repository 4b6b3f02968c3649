use Rattle.apfloat_arrays.proofs.LittleEndian.{one_written}
use Rattle.apfloat_arrays.proofs.bytes.write_number.Goals as goal

pub returns-in-1 : goal.returns-in-1
returns-in-1 c = one_written c.args.bytes.now c.args.number c.in-1.is c.requires
