use Rattle.std.proofs.Common.{◌≡◌, ℕ, eqb, ◌-◌, ◌*◌, ◌%◌, ◌^◌, ◌<◌, ◌≤◌, refl, sym, ap, ◌∙◌, arith}
use Rattle.std.proofs.{Math.Nat.mod-lt, lemmas.Nat.pow_pos}
use Rattle.apfloat_arithmetic.specs.Magnitudes.{units_of}
use Rattle.apfloat_arithmetic.proofs.NearestMultiples.{rest_in, quotient_in}
use Rattle.apfloat_arithmetic.proofs.WholeQuotients.{is_less, left_all, not_odd, at_lower_place}
use Rattle.apfloat_arithmetic.proofs.remainders.remaining_by.Goals.{After-rest_of_moved-left}
use Rattle.apfloat_arithmetic.proofs.remainders.remaining_by.Goals as goal

pub returns-then-x-y-clause-rest : goal.returns-then-x-y-clause-rest
returns-then-x-y-clause-rest c = left_all _ _ (is_less _ _ _ c.requires (omega arith))

pub returns-then-x-y-clause-odd : goal.returns-then-x-y-clause-odd
returns-then-x-y-clause-odd c = not_odd _ _ (is_less _ _ _ c.requires (omega arith))

-- a number at a place not below the divisor's, counted from the divisor's place
lowered : (state : After-rest_of_moved-left) → state.args.y.place ≤ state.args.x.place → units_of state.args.x
    ≡ state.args.x.significand * 2 ^ (state.args.x.place - state.args.y.place) * 2 ^ state.args.y.place
lowered c l = at_lower_place c.args.x.significand c.args.x.place c.args.y.place l

pub returns-clause-rest : goal.returns-clause-rest
returns-clause-rest c =
    let x : ℕ = units_of c.args.x in
    let y : ℕ = units_of c.args.y in
    let w : ℕ = 2 ^ c.args.y.place in
    let a : ℕ = c.args.x.significand * 2 ^ (c.args.x.place - c.args.y.place) in
    let e : x ≡ a * w = lowered (goal.at.returns-clause-rest c).After-rest_of_moved-left (omega arith) in
    ap (λ (z : ℕ). z * w) c.rest_of_moved-left.ensures.rest ∙
    sym (rest_in x y a c.args.y.significand w (x % y) (pow_pos c.args.y.place) e refl refl)

pub returns-clause-odd : goal.returns-clause-odd
returns-clause-odd c =
    let x : ℕ = units_of c.args.x in
    let y : ℕ = units_of c.args.y in
    let w : ℕ = 2 ^ c.args.y.place in
    let a : ℕ = c.args.x.significand * 2 ^ (c.args.x.place - c.args.y.place) in
    let e : x ≡ a * w = lowered (goal.at.returns-clause-odd c).After-rest_of_moved-left (omega arith) in
    c.rest_of_moved-left.ensures.odd
    ∙ sym (ap (λ (z : ℕ). eqb (z % 2) 1) (quotient_in x y a c.args.y.significand w (pow_pos c.args.y.place) e refl))

pub returns-clause-fits : goal.returns-clause-fits
returns-clause-fits c =
    let h : 0 < 2 ^ (c.args.precision - 1) = pow_pos (c.args.precision - 1) in
    let l = c.requires.divisor.full in
    let d : 0 < c.args.y.significand = omega arith in
    let a : ℕ = c.args.x.significand * 2 ^ (c.args.x.place - c.args.y.place) in
    let m : a % c.args.y.significand < c.args.y.significand = mod-lt a d in
    let r = c.rest_of_moved-left.ensures.rest in
    let f = c.requires.divisor.fits in
    omega arith
