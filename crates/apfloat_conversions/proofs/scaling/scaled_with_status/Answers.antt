use Rattle.std.proofs.{Common.w32, lemmas.Int.to_z-of_z}
use Rattle.apfloat_rounding.specs.Shapes.{format_at}
use Rattle.apfloat_conversions.proofs.StoredExponents.{zero_scaled_ok}
use Rattle.apfloat_conversions.proofs.scaling.scaled_with_status.Goals as goal

pub scale_number-requires : goal.scale_number-requires
scale_number-requires c = rw c.in-Normal.is at c.requires

pub propagated-requires-clause-stored : goal.propagated-requires-clause-stored
propagated-requires-clause-stored c = c.requires

pub propagated-requires-clause-nan : goal.propagated-requires-clause-nan
propagated-requires-clause-nan c = c.in-NaN.is

pub returns-in-Normal-clause-stored : goal.returns-in-Normal-clause-stored
returns-in-Normal-clause-stored c = c.scale_number.ensures.stored

pub returns-in-Normal-clause-scaled : goal.returns-in-Normal-clause-scaled
returns-in-Normal-clause-scaled c =
    let d = rw (to_z-of_z w32 c.args.places c.ranges.places) at c.scale_number.ensures.delivered in
    rw c.in-Normal.is d

pub returns-in-NaN-clause-stored : goal.returns-in-NaN-clause-stored
returns-in-NaN-clause-stored c = c.propagated.ensures.stored

pub returns-in-Zero-clause-scaled : goal.returns-in-Zero-clause-scaled
returns-in-Zero-clause-scaled c =
    let z = rw c.in-Zero.is at c.requires in
    rw (c.and.ensures.value, c.and.ensures.status, c.in-Zero.is)
    (zero_scaled_ok (format_at c.args.shape) c.args.round c.args.x.negative c.args.places z.sign_is)
