use Rattle.std.proofs.Common.{◌∙◌, sym, ap, subst, ℤ, Bool}
use Rattle.apfloat_model.specs.arithmetic.Exact.{signed}
use Rattle.apfloat_ieee.specs.FlaggedTypes.{constants_of}
use Rattle.apfloat_model.proofs.bits.Encodings.{lawful_interchange}
use Rattle.fast_bits.specs.Order.{IsPlaceOf}
use Rattle.fast_bits.proofs.Magnitudes.{nan_above, place_back, place_is}
use Rattle.fast_bits.proofs.order.place_of.Goals as goal

pub returns-then-magnitude-infinity-clause-none : goal.returns-then-magnitude-infinity-clause-none
returns-then-magnitude-infinity-clause-none g c = λ _.
    nan_above (constants_of g.S.Flagged) c.args.bits c.magnitude_of-magnitude.result c.infinity.result
    (lawful_interchange (constants_of g.S.Flagged) g.S.Flagged.lawful c.requires.bits) c.requires.implied
    c.requires.nonfinite c.magnitude_of-magnitude.ensures c.infinity.ensures c.if-magnitude-infinity.true

pub returns-clause-some : goal.returns-clause-some
returns-clause-some g c =
    let f = constants_of g.S.Flagged in
    let m = c.magnitude_of-magnitude.result in
    let place = place_is f c.args.bits m c.infinity.result
    (lawful_interchange f g.S.Flagged.lawful c.requires.bits) c.requires.implied
    c.requires.nonfinite c.magnitude_of-magnitude.ensures c.infinity.ensures c.if-magnitude-infinity.false
    c.requires.word in
    let is = c.signed.ensures ∙ ap (λ (b : Bool). signed b m) c.is_minus.ensures in
    let there = subst (λ (z : ℤ). IsPlaceOf f c.args.bits z) (sym is) place in
    subst (λ (z : ℤ). IsPlaceOf f c.args.bits z) (sym (place_back f c.args.bits c.signed.result there)) there
