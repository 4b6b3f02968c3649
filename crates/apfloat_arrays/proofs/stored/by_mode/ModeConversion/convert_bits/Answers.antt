use Rattle.apfloat_arrays.proofs.stored.by_mode.ModeConversion.convert_bits.Goals as goal

pub returns : goal.returns
returns c = record { mode = c.with.result; is_mode = c.with.ensures; is_stored = c.run.ensures }
