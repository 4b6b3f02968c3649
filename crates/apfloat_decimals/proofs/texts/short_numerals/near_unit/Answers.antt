use Rattle.std.specs.Int.{w128}
use Rattle.std.proofs.Common.{◌≡◌, ◌∙◌, arith, pos, neg_ℤ, ◌+ℤ◌, ◌-ℤ◌, ◌≤ℤ◌, to_z, of_z, w32}
use Rattle.std.proofs.lemmas.Int.{to_z-of_z, ints}
use Rattle.apfloat_decimals.proofs.spelled.FarTexts.{near_same}
use Rattle.apfloat_decimals.proofs.texts.short_numerals.near_unit.Goals as goal

pub returns-clause-same : goal.returns-clause-same
returns-clause-same c = λ exact near.
    let within = c.in_ok-unit.ensures.within in
    let given = to_z-of_z w128 c.args.exponent c.ranges.exponent in
    let wide = to_z-of_z w128 c.unit_of.result (record { sfits = c.unit_of.type_inv }) in
    let same : c.in_ok-unit.unit ≡ c.unit_of.result = rw wide at c.in_ok-unit.ensures.same in
    let narrow : to_z w32 (of_z w32 c.in_ok-unit.unit) ≡ c.in_ok-unit.unit = omega (arith, ints) in
    let low : neg_ℤ (pos 5020) ≤ℤ (pos 0 +ℤ c.unit_of.result) = omega (arith, ints, within, same) in
    let high : (pos 0 +ℤ c.unit_of.result) ≤ℤ pos 5020 = omega (arith, ints, within, same) in
    let is : c.unit_of.result ≡ exact -ℤ pos c.args.places = near_same 0 (exact -ℤ pos c.args.places) c.unit_of.result
    (omega arith) (c.unit_of.ensures.near exact (rw given near)) low high in
    rw narrow (same ∙ is)
