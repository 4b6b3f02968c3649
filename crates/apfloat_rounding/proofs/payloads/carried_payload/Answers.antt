use Rattle.std.proofs.Common.{refl}
use Rattle.apfloat_rounding.proofs.CarriedPayloads.{moved_in}
use Rattle.apfloat_rounding.proofs.payloads.carried_payload.Goals as goal

pub returns : goal.returns
returns c =
    let m = moved_in c.args.significand c.args.from.precision c.args.into.precision
    c.saturating_sub-places_in.result c.args.into.parameters.precision_high c.args.from.parameters.precision_high
    c.requires c.saturating_sub-places_in.ensures in
    rw (m, c.places_out.ensures.value) refl
