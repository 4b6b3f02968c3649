use Rattle.std.proofs.Common.{ℕ, ◌*◌, ◌^◌, w32, ap, ◌∙◌, subst}
use Rattle.std.proofs.lemmas.{Int.to_z-of_z, Nat.pow_pos}
use Rattle.apfloat_model.specs.{formats.Format.Format, order.Classes.quanta_of}
use Rattle.apfloat_model.proofs.arithmetic.Significands.{exponent_fits}
use Rattle.apfloat_ieee.specs.Types.{format_of}
use Rattle.small_formats.specs.stochastic.Directions.{IsDirection}
use Rattle.small_formats.proofs.stochastic.directions.rounds_away.Goals as goal

pub returns : goal.returns
returns g c =
    let f = format_of g.S.Semantics in
    let t = format_of g.T.Semantics in
    let bits = c.args.bits in
    let parts = 2 ^ f.scale in
    let number = c.in_quanta-number.ensures.number in
    let unit = to_z-of_z w32 c.in_quanta-number.result.unit
    (exponent_fits c.in_quanta-number.result.unit c.in_quanta-number.ensures.within) in
    let here = (rw unit at c.leads_away.ensures) (quanta_of c.args.x * 2 ^ c.scale.result) parts (pow_pos f.scale)
    number in
    let scale = c.scale.ensures.value ∙ ap (λ (h : Format). h.scale) c.shape_of-shape.ensures in
    subst
    (λ (n : ℕ). IsDirection t bits.digits bits.random (quanta_of c.args.x * 2 ^ n) parts c.leads_away.result) scale
    (subst
    (λ (h : Format).
    IsDirection h bits.digits bits.random (quanta_of c.args.x * 2 ^ c.scale.result) parts c.leads_away.result)
    c.shape_of-shape.ensures here)
