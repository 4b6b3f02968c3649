use Rattle.std.proofs.Common.{◌≡◌, to_z, of_z, w32, inl, refl, arith}
use Rattle.std.proofs.lemmas.Int.{to_z-of_z, ints}
use Rattle.apfloat_model.specs.rounding.Flags.{bits_of}
use Rattle.apfloat_rounding.specs.Stored.{datum_at}
use Rattle.apfloat_rounding.proofs.ShapeExponents.{exponent_word}
use Rattle.apfloat_conversions.proofs.StoredExponents.{scale_delivered}
use Rattle.apfloat_conversions.proofs.scaling.scale_number.Goals as goal

pub moved-requires-clause-exponent : goal.moved-requires-clause-exponent
moved-requires-clause-exponent c =
    record {
      low = omega (arith, ints, c.args.shape.parameters, c.requires.operand);
      high = omega (arith, ints, c.args.shape.parameters, c.requires.operand);
    }

pub moved-requires-clause-places : goal.moved-requires-clause-places
moved-requires-clause-places c =
    rw (to_z-of_z w32 c.clamped-near.result (record { sfits = c.clamped-near.type_inv })) c.clamped-near.ensures.within

pub last_exponent-exponent-requires : goal.last_exponent-exponent-requires
last_exponent-exponent-requires c =
    rw (to_z-of_z w32 c.moved.result (record { sfits = c.moved.type_inv })) c.moved.ensures.within

pub deliver-requires-clause-within : goal.deliver-requires-clause-within
deliver-requires-clause-within c =
    rw (to_z-of_z w32 c.last_exponent-exponent.result (record { sfits = c.last_exponent-exponent.type_inv }))
    c.last_exponent-exponent.ensures.within

pub deliver-requires-clause-fine : goal.deliver-requires-clause-fine
deliver-requires-clause-fine c = inl refl

pub returns-clause-stored : goal.returns-clause-stored
returns-clause-stored c = c.deliver.ensures.stored

pub returns-clause-delivered : goal.returns-clause-delivered
returns-clause-delivered c =
    let s = c.args.shape in
    let en : to_z w32 (of_z w32 c.clamped-near.result) ≡ c.clamped-near.result =
    to_z-of_z w32 c.clamped-near.result (record { sfits = c.clamped-near.type_inv }) in
    let em : to_z w32 (of_z w32 c.moved.result) ≡ c.moved.result =
    to_z-of_z w32 c.moved.result (record { sfits = c.moved.type_inv }) in
    let el : to_z w32 (of_z w32 c.last_exponent-exponent.result) ≡ c.last_exponent-exponent.result =
    to_z-of_z w32 c.last_exponent-exponent.result (record { sfits = c.last_exponent-exponent.type_inv }) in
    let is = rw (to_z-of_z w32 c.args.places c.ranges.places) at c.clamped-near.ensures.is in
    let w = rw (exponent_word s c.args.x.significand c.args.x.exponent c.requires, en) at c.moved.ensures.value in
    let l = rw em at c.last_exponent-exponent.ensures.value in
    scale_delivered s c.args.x.significand c.args.x.exponent c.args.places c.clamped-near.result
    c.last_exponent-exponent.result c.args.round c.args.x.negative (datum_at s c.deliver.result.value)
    (bits_of c.deliver.result.status)
    c.requires
    (record { low = c.clamped-near.ensures.within.low; high = c.clamped-near.ensures.within.high; is = is }) (rw w at l)
    (rw el at c.deliver.ensures.delivered)
