use Rattle.std.proofs.{Math.Nat.mod-lt, Math.Nat.pow-le-pow_right, lemmas.Nat.pow_pos}
use Rattle.std.proofs.Common.{◌≡◌, ℕ, eqb, ◌-◌, ◌*◌, ◌/◌, ◌%◌, ◌^◌, ◌<◌, ◌≤◌, sym, ap, ◌∙◌, subst, arith}
use Rattle.apfloat_model.proofs.general.{Powers.two_pos, Scaled.less_scaled}
use Rattle.apfloat_arithmetic.specs.Magnitudes.{units_of}
use Rattle.apfloat_arithmetic.proofs.{NearestMultiples.digits_less, WholeQuotients.divisor_pos}
use Rattle.apfloat_arithmetic.proofs.NearestMultiples.{upper, upper_level, lower_near, far_below, one_below}
use Rattle.apfloat_arithmetic.proofs.remainders.nearest_by.Goals.{then-gap-eq1, else-gap-eq1, Joined-gap-eq1}
use Rattle.apfloat_arithmetic.proofs.remainders.nearest_by.Goals as goal

pub returns-then-gap-gt1-clause-past : goal.returns-then-gap-gt1-clause-past
returns-then-gap-gt1-clause-past c =
    let x : ℕ = units_of c.args.x in
    let y : ℕ = units_of c.args.y in
    let rest = c.remaining_by-rest.result.magnitude in
    let low = c.remaining_by-rest.ensures.low in
    let f : 2 * units_of rest < y =
    far_below c.args.precision rest.significand rest.place c.args.y.significand c.args.y.place
    c.requires.operands.some c.remaining_by-rest.ensures.fits c.requires.operands.divisor.full (omega arith) in
    lower_near (x % y) y (eqb (x / y % 2) 1) (subst (λ (z : ℕ). 2 * z < y) c.remaining_by-rest.ensures.rest f)

pub overflow_mul-divisor : goal.overflow_mul-divisor
overflow_mul-divisor c =
    let m : 2 ^ c.args.precision ≤ 2 ^ 125 = pow-le-pow_right two_pos c.requires.operands.precise in
    let f = c.requires.operands.divisor.fits in
    record { fits = omega arith }

level_places : (t p q : ℕ) → p ≡ q → t * 2 ^ p ≡ t * 2 ^ q
level_places t p q e = ap (λ (x : ℕ). t * 2 ^ x) e

-- the divisor at the place of the rest is the divisor
divisor_there : (state : Joined-gap-eq1)
    → state.if-gap-eq1.divisor * 2 ^ state.remaining_by-rest.result.magnitude.place ≡ units_of state.args.y
divisor_there c =
    let p : ℕ = c.remaining_by-rest.result.magnitude.place in
    let low = c.remaining_by-rest.ensures.low in
    elim c.if-gap-eq1.branch [
      | then-gap-eq1 w ↦ ap (λ (z : ℕ). z * 2 ^ p) w.divisor-is ∙
          one_below c.args.y.significand p c.args.y.place (omega arith)
      | else-gap-eq1 w ↦ ap (λ (z : ℕ). z * 2 ^ p) w.divisor-is ∙
          level_places c.args.y.significand p c.args.y.place (omega arith)
    ]

pub overflow_sub-other : goal.overflow_sub-other
overflow_sub-other c =
    let x : ℕ = units_of c.args.x in
    let y : ℕ = units_of c.args.y in
    let s : ℕ = c.remaining_by-rest.result.magnitude.significand in
    let d : ℕ = c.if-gap-eq1.divisor in
    let l : x % y < y =
    mod-lt x (divisor_pos c.args.precision c.args.y.significand c.args.y.place c.requires.operands.divisor.full) in
    let k : s < d = digits_less s d (2 ^ c.remaining_by-rest.result.magnitude.place)
    (x % y) y c.remaining_by-rest.ensures.rest (divisor_there (goal.at.overflow_sub-other c).Joined-gap-eq1) l in
    omega arith

-- the digits at the place of the rest decide which multiple is nearest
nearest_there : (state : Joined-gap-eq1) → upper state.remaining_by-rest.result.magnitude.significand
    (state.if-gap-eq1.divisor - state.remaining_by-rest.result.magnitude.significand) state.remaining_by-rest.result.odd
    ≡ upper (units_of state.args.x % units_of state.args.y)
    (units_of state.args.y - units_of state.args.x % units_of state.args.y)
    (eqb (units_of state.args.x / units_of state.args.y % 2) 1)
nearest_there c =
    let x : ℕ = units_of c.args.x in
    let y : ℕ = units_of c.args.y in
    let p : ℕ = c.remaining_by-rest.result.magnitude.place in
    upper_level c.remaining_by-rest.result.magnitude.significand c.if-gap-eq1.divisor (2 ^ p) (x % y) y
    c.remaining_by-rest.result.odd (eqb (x / y % 2) 1) (pow_pos p) c.remaining_by-rest.ensures.rest (divisor_there c)
    c.remaining_by-rest.ensures.odd

pub returns-then-is_upper_nearest-clause-past : goal.returns-then-is_upper_nearest-clause-past
returns-then-is_upper_nearest-clause-past c =
    sym c.if-is_upper_nearest.true ∙ c.is_upper_nearest.ensures ∙
    nearest_there (goal.at.returns-then-is_upper_nearest-clause-past c).Joined-gap-eq1

pub returns-then-is_upper_nearest-clause-distance : goal.returns-then-is_upper_nearest-clause-distance
returns-then-is_upper_nearest-clause-distance c =
    let x : ℕ = units_of c.args.x in
    let y : ℕ = units_of c.args.y in
    let p : ℕ = c.remaining_by-rest.result.magnitude.place in
    let d : ℕ = c.if-gap-eq1.divisor in
    less_scaled d c.remaining_by-rest.result.magnitude.significand (2 ^ p)
    ∙ ap (λ (z : ℕ). d * 2 ^ p - z) c.remaining_by-rest.ensures.rest
    ∙ ap (λ (z : ℕ). z - x % y) (divisor_there (goal.at.returns-then-is_upper_nearest-clause-distance c).Joined-gap-eq1)

pub returns-clause-past : goal.returns-clause-past
returns-clause-past c =
    sym c.if-is_upper_nearest.false ∙ c.is_upper_nearest.ensures ∙
    nearest_there (goal.at.returns-clause-past c).Joined-gap-eq1
