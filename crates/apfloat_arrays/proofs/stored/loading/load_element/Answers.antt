use Rattle.std.proofs.Common.{sym, subst, refl, ℕ}
use Rattle.rustc_apfloat.specs.{FlaggedTypes.format_of, Flags.bits_of}
use Rattle.small_formats.specs.{Codes.datum_of, Storage.format_with, Types.constants_of}
use Rattle.small_formats.specs.saturation.Saturation.{IsConversionBy}
use Rattle.apfloat_arrays.proofs.stored.loading.load_element.Goals as goal

pub returns : goal.returns
returns g c =
    subst
    (λ (n : ℕ). IsConversionBy c.args.overflow (format_with (constants_of g.F.StorageFormat)) (format_of g.T.Flagged)
    c.args.round (datum_of (constants_of g.F.StorageFormat) n)
    c.treat.result.value (bits_of c.treat.result.status) c.treat.new.loses_info) c.from_bits-x.ensures
    (c.treat.ensures (format_with (constants_of g.F.StorageFormat)) c.args.round
    (datum_of (constants_of g.F.StorageFormat) c.from_bits-x.result) refl (sym c.is_negative.ensures)
    c.convert_r-answer.ensures.converted)
