use Rattle.std.proofs.Common.{ℕ, ◌^◌, ◌<◌, sym, subst}
use Rattle.apfloat_arrays.proofs.{LittleEndian.fits, stored_lemmas.ByMode.narrow}
use Rattle.apfloat_arrays.specs.stored.Formats.{bits_in}
use Rattle.apfloat_arrays.proofs.stored.by_mode.ModeConversion.convert_value.Goals as goal

pub write_number-requires : goal.write_number-requires
write_number-requires c =
    subst (λ (n : ℕ). c.convert_bits-made.result.bits < 256 ^ n) (sym c.requires.output)
    (fits c.convert_bits-made.result.bits (bits_in c.args.self.target) 1 c.convert_bits-made.ensures.is_stored.fits
    (narrow c.args.self.target))

pub returns : goal.returns
returns c = rw (c.write_number.ensures, sym c.number_of.ensures) c.convert_bits-made.ensures
