use Rattle.std.proofs.Common.{sym, subst, ℕ}
use Rattle.rustc_apfloat.specs.{FlaggedTypes.format_of, Flags.bits_of}
use Rattle.small_formats.specs.{Float8E3M4.e3m4_datum, Float8E3M4.e3m4_format, saturation.Saturation.IsConversionBy}
use Rattle.apfloat_arrays.proofs.stored.loading.load_e3m4.Goals as goal

pub returns : goal.returns
returns g c =
    subst
    (λ (n : ℕ). IsConversionBy c.args.overflow e3m4_format (format_of g.T.Flagged) c.args.round (e3m4_datum n)
    c.treat.result.value (bits_of c.treat.result.status) c.treat.new.loses_info) c.from_bits-x.ensures
    (c.treat.ensures e3m4_format c.args.round (e3m4_datum c.from_bits-x.result)
    (c.of.ensures (e3m4_datum c.from_bits-x.result) (sym c.category.ensures)) (sym c.is_negative.ensures)
    c.convert_r-answer.ensures.converted)
