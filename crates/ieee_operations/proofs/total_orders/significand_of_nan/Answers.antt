use Rattle.apfloat_ieee.specs.FlaggedTypes.{format_of, layout_of}
use Rattle.apfloat_model.proofs.bits.NanSignificands.{nan_trailing}
use Rattle.ieee_operations.proofs.total_orders.significand_of_nan.Goals as goal

pub returns : goal.returns
returns g c =
    rw (c.power_of_two.ensures, c.trailing_bits.ensures.value)
    (nan_trailing (format_of g.S.Flagged) (layout_of g.S.Flagged) c.to_bits.result c.args.x c.to_bits.ensures.back
    c.requires.nan)
