use Rattle.std.proofs.Common.{◌≡◌, ℕ, ◌-◌, ◌*◌, ◌/◌, ◌%◌, ◌^◌, ◌<◌, ◌≤◌, ◌∙◌, ap, sym, ⊎_elim, arith, unsigned_abs, w32}
use Rattle.std.proofs.Math.Nat.{div-eq_of_lt, mod-eq_of_lt, pow-le-pow_right}
use Rattle.std.proofs.lemmas.{Int.ints, Int.to_z-of_z, Nat.pow_pos}
use Rattle.apfloat_model.specs.rounding.Standing.{up, down}
use Rattle.apfloat_model.proofs.{arithmetic.Signs.no_up, general.Powers.two_pos, rounding.KeptDigits.fits_shifted}
use Rattle.apfloat_rounding.proofs.{OddCuts.no_down, QuantumCuts.whole_down, QuantumCuts.whole_below}
use Rattle.apfloat_rounding.proofs.rounding.denormal.whole_quanta.Goals.{Else-significand-eq0}
use borrow.Author.Differences.{fits_in}
use Rattle.apfloat_rounding.proofs.rounding.denormal.whole_quanta.Goals as goal

pub returns-then-unit-lt0-clause-few : goal.returns-then-unit-lt0-clause-few
returns-then-unit-lt0-clause-few c =
    let unit = c.args.unit in
    let s = c.args.significand in
    let places = c.places_below.result in
    let e = to_z-of_z w32 c.args.unit (fits_in w32 c.args.unit (omega (arith, ints, c.requires.within))) in
    ⊎_elim
    (λ (z : c.args.significand ≡ 0).
    let q : c.args.significand / 2 ^ c.places_below.result ≡ 0 = div-eq_of_lt (omega (arith, z, pow_pos places)) in
    omega (arith, q))
    (λ b.
    whole_below c.args.precision s c.args.digits (down unit) places c.requires.some c.requires.fits
    c.ranges.significand.fits (omega (arith, ints, b, c.if-unit-lt0.true))
    (rw e at c.places_below.ensures.near) (rw e at c.places_below.ensures.far))
    c.requires.below

pub returns-then-unit-lt0-clause-quanta : goal.returns-then-unit-lt0-clause-quanta
returns-then-unit-lt0-clause-quanta c = λ amount h.
    let unit = c.args.unit in
    let s = c.args.significand in
    let e = to_z-of_z w32 c.args.unit (fits_in w32 c.args.unit (omega (arith, ints, c.requires.within))) in
    let z : up c.args.unit ≡ 0 = no_up unit (omega (arith, ints, c.if-unit-lt0.true)) in
    let k : c.args.significand * 2 ^ up c.args.unit ≡ c.args.significand * 2 ^ 0 = ap (λ (x : ℕ). s * 2 ^ x) z in
    whole_down s c.places_below.result (down unit) amount c.ranges.significand.fits
    (rw e at c.places_below.ensures.near) (rw e at c.places_below.ensures.far) (omega (arith, h, k))

-- the significand moved up is below the smallest normalized value
below : (c : Else-significand-eq0) → c.args.significand * 2 ^ unsigned_abs c.args.unit < 2 ^ (c.args.precision - 1)
below c =
    let n = no_down c.args.unit (omega (arith, ints, c.if-unit-lt0.false)) in
    ⊎_elim (λ (z : c.args.significand ≡ 0). absurd (omega (arith, z, c.if-significand-eq0.false)))
    (λ b.
    fits_shifted c.args.significand c.args.digits (unsigned_abs c.args.unit) (c.args.precision - 1) c.requires.fits
    (omega (arith, ints, b, n.0, c.requires.some, c.if-unit-lt0.false))) c.requires.below

moved : (c : Else-significand-eq0)
    → c.args.significand * 2 ^ unsigned_abs c.args.unit % 2 ^ 64 ≡ c.args.significand * 2 ^ unsigned_abs c.args.unit
moved c =
    let l : c.args.precision - 1 ≤ 64 = omega (arith, c.requires.short) in
    mod-eq_of_lt (omega (arith, below c, pow-le-pow_right two_pos l))

pub returns-else-significand-eq0-clause-few : goal.returns-else-significand-eq0-clause-few
returns-else-significand-eq0-clause-few c =
    let state = (goal.at.returns-else-significand-eq0-clause-few c).Else-significand-eq0 in
    let e = to_z-of_z w32 c.args.unit (fits_in w32 c.args.unit (omega (arith, ints, c.requires.within))) in
    rw (e, moved state) (omega (arith, below state))

pub returns-else-significand-eq0-clause-quanta : goal.returns-else-significand-eq0-clause-quanta
returns-else-significand-eq0-clause-quanta c = λ amount h.
    let state = (goal.at.returns-else-significand-eq0-clause-quanta c).Else-significand-eq0 in
    let e = to_z-of_z w32 c.args.unit (fits_in w32 c.args.unit (omega (arith, ints, c.requires.within))) in
    let n = no_down c.args.unit (omega (arith, ints, c.if-unit-lt0.false)) in
    let k : amount * 2 ^ down c.args.unit ≡ amount * 2 ^ 0 = ap (λ (x : ℕ). amount * 2 ^ x) n.1 in
    let u = ap (λ (x : ℕ). c.args.significand * 2 ^ x) (sym n.0) in
    rw (e, moved state) (u ∙ sym h ∙ k ∙ omega arith)
