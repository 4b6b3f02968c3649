use Rattle.std.proofs.Common.{ℕ, ◌+◌, ◌^◌, leb, ap, ◌∙◌, w32, arith}
use Rattle.std.proofs.lemmas.Int.{to_z-of_z}
use Rattle.apfloat_model.specs.rounding.Standing.{up, down}
use Rattle.apfloat_model.proofs.arithmetic.Significands.{exponent_fits}
use Rattle.p3109_formats.proofs.RandomParts.{away_is}
use Rattle.p3109_formats.proofs.random.leads_away.Goals as goal

pub parts_of-parts-requires-clause-cut : goal.parts_of-parts-requires-clause-cut
parts_of-parts-requires-clause-cut c =
    let number = c.args.number in
    let e = to_z-of_z w32 number.unit (exponent_fits number.unit c.requires.within) in
    let covers = rw e at c.kept_place-place.ensures.covers in
    let steps = rw e at c.steps_up-places.ensures in
    omega (arith, covers, steps, c.requires.precise, c.args.bits.are_random.few)

pub returns : goal.returns
returns c = λ amount parts some h.
    let number = c.args.number in
    let e = to_z-of_z w32 number.unit (exponent_fits number.unit c.requires.within) in
    away_is c.args.precision number.digits c.steps_up-places.result c.kept_place-place.result amount parts
    (up number.unit) (down number.unit) c.args.mode c.args.bits _ c.requires.some some c.requires.low
    c.requires.high (rw e at c.kept_place-place.ensures.covers) (rw e at c.kept_place-place.ensures.reached)
    (rw e at c.steps_up-places.ensures) h
    (λ n m more is. ap (λ (k : ℕ). leb c.power_of_two.result (k + c.from-2.result)) c.from.ensures
    ∙ ap (λ (k : ℕ). leb c.power_of_two.result (c.parts_of-parts.result + k)) c.from-2.ensures
    ∙ ap (λ (k : ℕ). leb k (c.parts_of-parts.result + c.args.bits.random)) c.power_of_two.ensures
    ∙ ap (λ (k : ℕ). leb (2 ^ c.args.bits.digits) (k + c.args.bits.random)) (c.parts_of-parts.ensures n m more is))
