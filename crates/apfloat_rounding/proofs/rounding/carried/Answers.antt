use Rattle.std.proofs.Common.{◌≡◌, ℕ, ◌-◌, ◌*◌, ◌^◌, ◌<◌, ap, sym, ◌∙◌, arith}
use Rattle.std.proofs.lemmas.Nat.{pow_pos}
use Rattle.apfloat_model.proofs.{general.Powers.twice_half, rounding.Neighbours.carried}
use Rattle.apfloat_rounding.proofs.rounding.carried.Goals as goal

pub returns-then-significand-power_of_two-clause-value : goal.returns-then-significand-power_of_two-clause-value
returns-then-significand-power_of_two-clause-value c =
    let half = c.power_of_two-then-significand-power_of_two.result in
    let is = c.power_of_two-then-significand-power_of_two.ensures in
    let t : 2 * 2 ^ (c.args.precision - 1) ≡ 2 ^ c.args.precision = twice_half c.args.precision c.requires.some in
    let d : c.args.significand ≡ 2 * half =
    omega (arith, t, is, c.power_of_two.ensures, c.if-significand-power_of_two.true) in
    sym (ap (λ (x : ℕ). x * 2 ^ c.args.place) d ∙ carried half c.args.place)

pub returns-then-significand-power_of_two-clause-fits : goal.returns-then-significand-power_of_two-clause-fits
returns-then-significand-power_of_two-clause-fits c =
    let p : 0 < 2 ^ (c.args.precision - 1) = pow_pos (c.args.precision - 1) in
    omega (arith, twice_half c.args.precision c.requires.some, p, c.power_of_two-then-significand-power_of_two.ensures)
