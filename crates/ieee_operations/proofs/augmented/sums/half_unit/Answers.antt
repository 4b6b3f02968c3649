use Rattle.apfloat_ieee.specs.FlaggedTypes.{format_of, constants_of}
use Rattle.ieee_operations.proofs.augmented_lemmas.{Cases.ranges_of, Heads.half_unit_is, OrderedSums.places_is}
use Rattle.ieee_operations.proofs.augmented.sums.half_unit.Goals as goal

pub returns : goal.returns
returns g c =
    let f = format_of g.S.Flagged in
    let r = ranges_of (constants_of g.S.Flagged) g.S.Flagged.lawful in
    let scaled = rw c.smallest.ensures at c.scalbn.ensures in
    half_unit_is f r.precision r.span _
    (places_is c.MAX_EXP.result c.MIN_EXP.result f.span (record { sfits = c.MAX_EXP.type_inv })
    (record { sfits = c.MIN_EXP.type_inv }) (rw (c.MAX_EXP.ensures, c.MIN_EXP.ensures) r.span_is) r.span r.span_short)
    c.scalbn.result scaled
