use Rattle.std.specs.Int.{w128}
use Rattle.std.proofs.{Common.◌≡◌, Common.arith, Common.to_z, Common.of_z, lemmas.Int.to_z-of_z}
use Rattle.apfloat_rounding.specs.{Shapes.format_at, Stored.quanta_at}
use Rattle.apfloat_rounding.proofs.StoredBack.{quanta_some}
use Rattle.apfloat_conversions.proofs.ToSigned.{limited_signed}
use Rattle.apfloat_conversions.proofs.integers.number_to_signed.Goals as goal

pub signed_limit-requires-clause-low : goal.signed_limit-requires-clause-low
signed_limit-requires-clause-low c = c.requires.low

pub signed_limit-requires-clause-high : goal.signed_limit-requires-clause-high
signed_limit-requires-clause-high c = c.requires.high

pub magnitude_within-magnitude-requires : goal.magnitude_within-magnitude-requires
magnitude_within-magnitude-requires c = c.requires.normal

pub with_sign-requires : goal.with_sign-requires
with_sign-requires c = omega (arith, c.magnitude_within-magnitude.ensures.fits, c.signed_limit.ensures.fits)

pub returns : goal.returns
returns c =
    let s = c.args.shape in
    let same : to_z w128 (of_z w128 c.with_sign.result) ≡ c.with_sign.result =
    to_z-of_z w128 c.with_sign.result (record { sfits = c.with_sign.type_inv }) in
    rw (c.and.ensures.value, c.and.ensures.status, same, c.with_sign.ensures)
    (limited_signed (format_at s) c.args.round c.args.width c.args.x.negative
    (quanta_at s.min_exp c.args.x.significand c.args.x.exponent) _
    (quanta_some s c.args.x.significand c.args.x.exponent c.requires.normal)
    (rw c.signed_limit.ensures.value at c.magnitude_within-magnitude.ensures.limited))
