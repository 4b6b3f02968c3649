use Rattle.std.proofs.Common.{refl}
use Rattle.apfloat_rounding.proofs.CarriedPayloads.{nan_fits}
use Rattle.apfloat_rounding.proofs.payloads.converted_nan.Goals as goal

pub carried_payload-payload-requires : goal.carried_payload-payload-requires
carried_payload-payload-requires c =
    nan_fits c.args.from.nonfinite c.args.from.explicit_integer_bit c.args.from.precision _
    c.args.from.parameters.precision_low c.quieted_significand-quieted.ensures.nan

pub returns-clause-converted : goal.returns-clause-converted
returns-clause-converted c =
    record {
      value_is = rw (
        c.and.ensures.value,
        c.nan_of-value.ensures.datum,
        c.quiet_significand.ensures.value,
        c.carried_payload-payload.ensures,
        c.quieted_significand-quieted.ensures.value,
      ) refl;
      status_is = rw (c.and.ensures.status, c.status_of.ensures, c.signals.ensures) refl;
    }
