use Rattle.std.proofs.Common.{length, sym}
use Rattle.apfloat_arrays.proofs.LittleEndian.{fits}
use Rattle.apfloat_arrays.proofs.one_value.convert_slowly.Goals as goal

pub write_number-requires : goal.write_number-requires
write_number-requires g c = fits c.convert_near-answer.result.bits _ (length c.args.output.now)
    c.convert_near-answer.ensures.is_encoded.below c.requires.room

pub returns : goal.returns
returns g c = rw (c.write_number.ensures, sym c.number_of.ensures) c.convert_near-answer.ensures
