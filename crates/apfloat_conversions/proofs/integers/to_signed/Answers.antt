use Rattle.std.specs.Int.{w128}
use Rattle.std.proofs.Common.{◌∙◌}
use Rattle.std.proofs.lemmas.Int.{to_z-of_z}
use Rattle.apfloat_rounding.specs.Shapes.{format_at}
use Rattle.apfloat_conversions.proofs.ToSigned.{infinite_signed, zero_signed}
use Rattle.apfloat_conversions.proofs.integers.to_signed.Goals as goal

pub number_to_signed-requires-clause-normal : goal.number_to_signed-requires-clause-normal
number_to_signed-requires-clause-normal c = rw c.in-Normal.is at c.requires.stored

pub number_to_signed-requires-clause-low : goal.number_to_signed-requires-clause-low
number_to_signed-requires-clause-low c = c.requires.low

pub number_to_signed-requires-clause-high : goal.number_to_signed-requires-clause-high
number_to_signed-requires-clause-high c = c.requires.high

pub returns-in-Normal : goal.returns-in-Normal
returns-in-Normal c = rw c.in-Normal.is c.number_to_signed.ensures

pub signed_limit-limit-requires-clause-low : goal.signed_limit-limit-requires-clause-low
signed_limit-limit-requires-clause-low c = c.requires.low

pub signed_limit-limit-requires-clause-high : goal.signed_limit-limit-requires-clause-high
signed_limit-limit-requires-clause-high c = c.requires.high

pub with_sign-requires : goal.with_sign-requires
with_sign-requires c = c.signed_limit-limit.ensures.fits

pub returns-in-Zero : goal.returns-in-Zero
returns-in-Zero c =
    rw (c.in-Zero.is, c.and.ensures.value, c.and.ensures.status)
    (zero_signed (format_at c.args.shape) c.args.round c.args.width c.args.x.negative)

pub returns-in-Infinity : goal.returns-in-Infinity
returns-in-Infinity c =
    let held = to_z-of_z w128 c.with_sign.result (record { sfits = c.with_sign.type_inv }) ∙ c.with_sign.ensures in
    let answer = c.signed_out_of_range.ensures in
    rw (c.in-Infinity.is, answer.number_is, held, answer.status_is, answer.is_exact_is)
    (infinite_signed (format_at c.args.shape) c.args.round c.args.width c.signed_limit-limit.result c.args.x.negative
    c.signed_limit-limit.ensures.value)

pub returns-in-NaN : goal.returns-in-NaN
returns-in-NaN c = rw c.in-NaN.is c.signed_out_of_range-in-NaN.ensures
