use Rattle.std.proofs.Common.{◌≡◌, ℕ, ◌*◌, ◌/◌, ◌%◌, ◌^◌, subst, ◌∙◌, arith}
use Rattle.std.proofs.lemmas.Nat.{pow_pos, div-add-mod', mod_below}
use Rattle.apfloat_model.specs.rounding.Standing.{StandsFor}
use Rattle.small_formats.proofs.RestLosses.{loss_moves, odd_moves, random_moves}
use Rattle.small_formats.proofs.picks.takes_next.Goals as goal

pub returns-in-Ieee : goal.returns-in-Ieee
returns-in-Ieee c =
    let u : ℕ = 2 ^ c.args.places in
    let q : ℕ = c.args.number / u in
    let one : u * 1 ≡ u = omega arith in
    rw c.in-Ieee.is
    (c.moves_up.ensures
    ∙ loss_moves c.in-Ieee.round c.args.negative c.args.odd q c.args.number u (c.args.number % u) c.args.loss
    (pow_pos c.args.places) (div-add-mod' c.args.number u) (mod_below c.args.number u (pow_pos c.args.places))
    (subst (λ (n : ℕ). StandsFor q c.args.loss c.args.number n) one c.requires))

pub returns-in-ToOdd : goal.returns-in-ToOdd
returns-in-ToOdd c =
    let u : ℕ = 2 ^ c.args.places in
    let q : ℕ = c.args.number / u in
    let one : u * 1 ≡ u = omega arith in
    rw c.in-ToOdd.is
    (c.odd_takes_next.ensures
    ∙ odd_moves c.args.negative c.args.odd q c.args.number u (c.args.number % u) c.args.loss c.is_exact.result
    (pow_pos c.args.places) (div-add-mod' c.args.number u)
    (subst (λ (n : ℕ). StandsFor q c.args.loss c.args.number n) one c.requires) c.is_exact.ensures.yes
    c.is_exact.ensures.no)

pub returns-in-Stochastic : goal.returns-in-Stochastic
returns-in-Stochastic c =
    let u : ℕ = 2 ^ c.args.places in
    let fits = c.in-Stochastic.bits.are_random.fits in
    rw c.in-Stochastic.is
    (c.reaches_whole.ensures
    ∙ random_moves c.in-Stochastic.bits c.args.negative c.args.odd u (c.args.number % u) c.parts_of_rest.result
    (mod_below c.args.number u (pow_pos c.args.places)) fits c.parts_of_rest.ensures.value)
