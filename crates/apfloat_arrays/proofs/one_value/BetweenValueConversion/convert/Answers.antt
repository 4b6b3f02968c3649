use Rattle.std.proofs.Common.{length, sym}
use Rattle.apfloat_arrays.proofs.LittleEndian.{fits}
use Rattle.apfloat_arrays.proofs.one_value.BetweenValueConversion.convert.Goals as goal

pub write_number-requires : goal.write_number-requires
write_number-requires g c = fits c.convert_bits-answer.result.bits _ (length c.args.output.now)
    c.convert_bits-answer.ensures.is_encoded.below c.requires.0.room

pub returns-then-self : goal.returns-then-self
returns-then-self g c = rw (c.write_number.ensures, sym c.number_of.ensures) c.convert_bits-answer.ensures
