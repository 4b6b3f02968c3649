use Rattle.std.proofs.Common.{◌-◌, ◌∙◌, ℕ, ap}
use Rattle.std.proofs.Math.Nat.{mod-eq_of_lt}
use Rattle.apfloat_model.proofs.bits.Encodings.{lawful_interchange}
use Rattle.apfloat_ieee.specs.FlaggedTypes.{constants_of}
use Rattle.fast_bits.proofs.Magnitudes.{infinity_fits}
use Rattle.fast_bits.proofs.order.infinity.Goals as goal

pub returns : goal.returns
returns g c =
    let f = constants_of g.S.Flagged in
    let fits = infinity_fits f (lawful_interchange f g.S.Flagged.lawful c.requires.bits) c.requires.implied
    c.requires.word in
    rw (c.from.ensures ∙ ap (λ (n : ℕ). n - 1) c.exponents.ensures, c.PRECISION.ensures) (mod-eq_of_lt fits)
