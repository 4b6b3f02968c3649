use Rattle.std.proofs.Common.{◌≡◌, ℕ, ◌-◌, ◌*◌, ◌/◌, ◌^◌, ◌<◌, false, ap, ◌∙◌, arith}
use Rattle.apfloat_model.specs.formats.{Datum.nan, Nan.nan_sign, Nan.quiet_significand}
use Rattle.apfloat_model.specs.rounding.Flags.{bits_of}
use Rattle.apfloat_ieee.specs.FlaggedTypes.{format_of}
use Rattle.p3109_formats.specs.Projections.{magnitude_of, projected_format}
use Rattle.p3109_formats.proofs.Codes.{infinity_at, nan_at, number_at, zero_at}
use Rattle.p3109_formats.proofs.Values.{infinity_converted, nan_converted, number_converted, zero_converted}
use Rattle.p3109_formats.proofs.descriptor.Descriptor.convert_r.Goals as goal

pub returns : goal.returns
returns g c =
    let d = c.args.self in
    let f = format_of g.T.Flagged in
    let some : 0 < magnitude_of d c.args.code =
    omega (arith, c.magnitude-magnitude.ensures.value, c.if-magnitude-eq0.false) in
    let at = rw c.magnitude-magnitude.ensures.value at c.point_at-point.ensures in
    let delivered = rw (at, c.scale.ensures.value) at c.convert_point.ensures.delivered in
    number_converted d f c.args.round c.args.code (magnitude_of d c.args.code) c.is_negative-negative.result
    c.convert_point.result.value (bits_of c.convert_point.result.status) _ c.requires.lawful.precision_low some
    (number_at d c.args.code c.is_nan.ensures c.if-is_nan.false c.is_negative-negative.ensures
    (omega (arith, c.magnitude-magnitude.ensures.value, c.largest_index.ensures, c.if-magnitude-largest_index.false)))
    delivered c.convert_point.ensures.loses

-- the NaN of e4m3fnuz has a significand of 0 too
pub returns-then-is_nan : goal.returns-then-is_nan
returns-then-is_nan g c =
    let f = format_of g.T.Flagged in
    let h = rw c.nan.ensures at c.convert_r.ensures.converted in
    let none : 0 * 2 ^ (f.precision - 4) / 2 ^ 0 ≡ 0 = omega arith in
    nan_converted c.args.self f c.args.round c.args.code c.convert_r.result.value
    (bits_of c.convert_r.result.status) _ (nan_at c.args.self c.args.code c.is_nan.ensures c.if-is_nan.true)
    (h.value_is ∙ ap (λ (n : ℕ). nan (nan_sign f.nonfinite false) (quiet_significand f n)) none) h.status_is h.loses_is

pub returns-then-magnitude-largest_index : goal.returns-then-magnitude-largest_index
returns-then-magnitude-largest_index g c =
    infinity_converted c.args.self (projected_format c.args.self)
    (format_of g.T.Flagged) c.args.round c.args.code
    c.is_negative-negative.result c.convert_r-then-magnitude-largest_index.result.value
    (bits_of c.convert_r-then-magnitude-largest_index.result.status) _
    (infinity_at c.args.self c.args.code c.is_nan.ensures c.if-is_nan.false
    c.is_negative-negative.ensures (omega (
      arith,
      c.magnitude-magnitude.ensures.value,
      c.largest_index.ensures,
      c.if-magnitude-largest_index.true,
    )))
    (rw c.half_infinity.ensures at c.convert_r-then-magnitude-largest_index.ensures.converted)

pub returns-then-magnitude-eq0 : goal.returns-then-magnitude-eq0
returns-then-magnitude-eq0 g c =
    zero_converted c.args.self (projected_format c.args.self) (format_of g.T.Flagged) c.args.round c.args.code
    c.convert_r-then-magnitude-eq0.result.value (bits_of c.convert_r-then-magnitude-eq0.result.status) _
    (zero_at c.args.self c.args.code c.requires.lawful c.requires.code c.is_nan.ensures c.if-is_nan.false
    (omega (arith, c.magnitude-magnitude.ensures.value, c.if-magnitude-eq0.true)))
    (rw c.zero.ensures at c.convert_r-then-magnitude-eq0.ensures.converted)
