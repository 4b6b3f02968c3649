use Rattle.apfloat_ieee.specs.FlaggedTypes.{format_of, layout_of}
use Rattle.apfloat_model.specs.formats.Nan.{nan_significand}
use Rattle.apfloat_model.proofs.bits.NanSignificands.{nan_trailing}
use Rattle.ieee_operations.proofs.augmented_lemmas.PayloadValues.{payload_is}
use Rattle.ieee_operations.proofs.augmented.payloads.payload_of_nan.Goals as goal

pub returns : goal.returns
returns g c =
    let f = format_of g.S.Flagged in
    rw (c.power_of_two.ensures, c.payload_bits.ensures.value)
    (payload_is f c.to_bits.result (nan_significand c.args.x)
    (nan_trailing f (layout_of g.S.Flagged) c.to_bits.result c.args.x c.to_bits.ensures.back c.requires.nan))
