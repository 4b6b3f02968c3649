use Rattle.std.proofs.{Common.w32, lemmas.Int.to_z-of_z}
use Rattle.std.specs.Int.{w128}
use Rattle.apfloat_conversions.proofs.hex_texts_lemmas.Saturations.{near_sum}
use Rattle.apfloat_conversions.proofs.hex_texts.exponent.unit_exponent.Goals as goal

pub returns-clause-near : goal.returns-clause-near
returns-clause-near c exact near =
    let u = rw (to_z-of_z w128 c.args.exponent c.ranges.exponent) at c.unit_of.ensures in
    let k = rw (to_z-of_z w128 c.unit_of.result (record { sfits = c.unit_of.type_inv })) at c.clamped.ensures.near in
    let l = rw u at k in
    rw (to_z-of_z w32 c.clamped.result (record { sfits = c.clamped.type_inv }))
    (near_sum exact c.args.exponent c.clamped.result c.args.cut c.args.places c.ranges.cut.fits c.ranges.places.fits
    near l)
