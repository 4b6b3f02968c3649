use Rattle.std.proofs.Common.{◌<◌, arith}
use Rattle.apfloat_model.specs.rounding.Flags.{bits_of}
use Rattle.apfloat_model.proofs.arithmetic.ExactConversions.{exactly_converted}
use Rattle.apfloat_ieee.specs.FlaggedTypes.{format_of}
use Rattle.small_formats.specs.{Codes.datum_of, Codes.magnitude_of, Storage.format_with, Types.constants_of}
use Rattle.small_formats.proofs.Converted.{number_converted, zero_converted}
use Rattle.small_formats.proofs.stored.StoredFloat.convert_r.Goals as goal

pub returns-clause-converted : goal.returns-clause-converted
returns-clause-converted g c =
    let d = constants_of g.F.StorageFormat in
    let f = format_of g.T.Flagged in
    let low = g.F.StorageFormat.lawful.precision_low in
    let some : 0 < magnitude_of d c.args.self =
    omega (arith, c.magnitude-magnitude.ensures.value, c.if-magnitude-eq0.false) in
    let at = rw (c.PRECISION.ensures, c.from.ensures, c.magnitude-magnitude.ensures.value)
    at c.point_at-point.ensures in
    let delivered = rw (at, c.scale.ensures.value, c.is_negative-negative.ensures)
    at c.convert_point.ensures.delivered in
    number_converted d f c.args.round c.args.self c.convert_point.result.value (bits_of c.convert_point.result.status)
    _ (omega (arith, low)) some delivered c.convert_point.ensures.loses

pub returns-clause-exact : goal.returns-clause-exact
returns-clause-exact g c =
    exactly_converted (format_with (constants_of g.F.StorageFormat)) (format_of g.T.Flagged) c.args.round
    (datum_of (constants_of g.F.StorageFormat) c.args.self) c.convert_point.result.value
    (bits_of c.convert_point.result.status) _ (returns-clause-converted g c)

pub returns-then-magnitude-eq0-clause-exact : goal.returns-then-magnitude-eq0-clause-exact
returns-then-magnitude-eq0-clause-exact g c =
    let d = constants_of g.F.StorageFormat in
    let kept = rw c.is_negative-negative.ensures at c.zero.ensures in
    exactly_converted (format_with d) (format_of g.T.Flagged) c.args.round (datum_of d c.args.self)
    c.zero.result.value (bits_of c.zero.result.status) _
    (zero_converted d (format_of g.T.Flagged) c.args.round c.args.self c.zero.result.value
    (bits_of c.zero.result.status) _ (omega (arith, c.magnitude-magnitude.ensures.value, c.if-magnitude-eq0.true)) kept)
