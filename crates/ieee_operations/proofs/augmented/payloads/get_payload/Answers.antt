use Rattle.std.proofs.Common.{sym, ◌∙◌}
use Rattle.apfloat_model.specs.rounding.Flags.{bits_of}
use Rattle.apfloat_ieee.specs.FlaggedTypes.{format_of, constants_of}
use Rattle.ieee_operations.proofs.augmented_lemmas.Cases.{ranges_of}
use Rattle.ieee_operations.proofs.augmented_lemmas.PayloadValues.{payload_value, no_payload, payload_fits, nan_class}
use Rattle.ieee_operations.proofs.augmented.payloads.get_payload.Goals as goal

pub returns-then-is_nan : goal.returns-then-is_nan
returns-then-is_nan g c =
    let f = format_of g.S.Flagged in
    let r = ranges_of (constants_of g.S.Flagged) g.S.Flagged.lawful in
    payload_value f r.precision r.scale c.args.x c.from_u128_r.result.value (bits_of c.from_u128_r.result.status)
    c.payload_of_nan.result (nan_class c.args.x _ (sym c.is_nan.ensures ∙ c.if-is_nan.true)) c.payload_of_nan.ensures
    (payload_fits f c.args.x c.payload_of_nan.result c.payload_of_nan.ensures) c.from_u128_r.ensures

pub returns-else-is_nan : goal.returns-else-is_nan
returns-else-is_nan g c =
    let f = format_of g.S.Flagged in
    let r = ranges_of (constants_of g.S.Flagged) g.S.Flagged.lawful in
    no_payload f r.precision r.scale c.args.x c.from_i128.result.value (bits_of c.from_i128.result.status)
    (nan_class c.args.x _ (sym c.is_nan.ensures ∙ c.if-is_nan.false)) c.from_i128.ensures
