use Rattle.std.proofs.Common.{length, sym}
use Rattle.apfloat_arrays.proofs.LittleEndian.{fits}
use Rattle.apfloat_arrays.proofs.stored.code_tables.CodesValueConversion.convert.Goals as goal

pub write_number-requires : goal.write_number-requires
write_number-requires g c = fits c.load_code-answer.result.bits _ (length c.args.output.now)
    c.load_code-answer.ensures.is_encoded.below c.requires.2

pub returns : goal.returns
returns g c = rw (c.write_number.ensures, sym c.byte_of-code.ensures.is) c.load_code-answer.ensures
