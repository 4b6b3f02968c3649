use Rattle.std.proofs.Common.{sym, subst, ℕ}
use Rattle.rustc_apfloat.specs.{FlaggedTypes.format_of, Flags.bits_of}
use Rattle.small_formats.specs.{Scales.scale_format, Scales.scale_of, saturation.Saturation.IsConversionBy}
use Rattle.apfloat_arrays.proofs.stored_lemmas.ScaleClasses.{scale_sign}
use Rattle.apfloat_arrays.proofs.stored.loading.load_scale.Goals as goal

pub returns : goal.returns
returns g c =
    subst
    (λ (n : ℕ). IsConversionBy c.args.overflow scale_format (format_of g.T.Flagged) c.args.round (scale_of n)
    c.treat.result.value (bits_of c.treat.result.status) c.treat.new.loses_info) c.from_bits-x.ensures
    (c.treat.ensures scale_format c.args.round (scale_of c.from_bits-x.result) (sym c.class_of_scale.ensures)
    (scale_sign c.from_bits-x.result) c.convert_r-answer.ensures.converted)
