use Rattle.std.proofs.{Math.Nat.mul-pos, lemmas.Nat.pow_pos}
use Rattle.std.proofs.Common.{◌≡◌, ◌+◌, ◌*◌, ◌^◌, ◌<◌, Bool, ℕ, eqb, sym, subst, arith, if◌then◌else◌}
use Rattle.apfloat_model.specs.formats.{Constants.infinity_of, Format.Format}
use Rattle.apfloat_model.specs.rounding.{Answer.IsAnswer, Flags.bits_of, Outcome.Outcome, Outcome.settled}
use Rattle.apfloat_model.specs.rounding.{Outcome.rounded, Outcome.invalid, Rounding.IsDelivered}
use Rattle.apfloat_model.specs.arithmetic.{Exact.product_sign, Quotients.div_by_zero_bit}
use Rattle.apfloat_rounding.specs.{Shapes.format_at, Stored.datum_at}
use Rattle.apfloat_arithmetic.proofs.other_formats_lemmas.Cases.{zero_yields, some_yields}
use Rattle.apfloat_arithmetic.proofs.other_formats_lemmas.Exponents.{no_term, some_term}
use Rattle.apfloat_arithmetic.proofs.other_formats.quotients.divide_numbers.Goals as goal

-- the outcomes of a division by zero, and of any other one
abbrev pole : Format → Bool → Outcome
pole g sign = settled (infinity_of g sign) div_by_zero_bit

abbrev over_zero : Format → Bool → ℕ → Outcome
over_zero g sign m = if eqb m 0 then invalid g else pole g sign

abbrev regular : Format → Bool → ℕ → ℕ → ℕ → ℕ → Outcome
regular g sign m s n t = rounded sign (m * 2 ^ (t + g.scale)) (n * 2 ^ s)

pub returns-then-x-eq0-clause-quotient : goal.returns-then-x-eq0-clause-quotient
returns-then-x-eq0-clause-quotient c = λ m s n t hx hy.
    let g = format_at c.args.into in
    let mode = c.args.round in
    let sign = product_sign c.args.x.negative c.args.y.negative in
    let v = datum_at c.args.into c.invalid.result.value in
    let i = bits_of c.invalid.result.status in
    let a : m ≡ 0 = no_term s m c.args.x c.if-x-eq0.true hx in
    let b : n ≡ 0 = no_term t n c.args.y c.if-y-eq0.true hy in
    zero_yields g mode n (over_zero g sign m) (regular g sign m s n t) v i b
    (zero_yields g mode m (invalid g) (pole g sign) v i a c.invalid.ensures.delivered)

pub returns-then-y-eq0-clause-quotient : goal.returns-then-y-eq0-clause-quotient
returns-then-y-eq0-clause-quotient c = λ m s n t hx hy.
    let g = format_at c.args.into in
    let mode = c.args.round in
    let sign = product_sign c.args.x.negative c.args.y.negative in
    let v = datum_at c.args.into c.divided_by_zero.result.value in
    let i = bits_of c.divided_by_zero.result.status in
    let some : 0 < m = some_term s m c.args.x c.if-x-eq0.false hx in
    let b : n ≡ 0 = no_term t n c.args.y c.if-y-eq0.true hy in
    zero_yields g mode n (over_zero g sign m) (regular g sign m s n t) v i b
    (some_yields g mode m (invalid g) (pole g sign) v i some
    (subst (λ (z : Bool). IsAnswer (infinity_of g z) div_by_zero_bit v i)
    c.product_sign-negative.ensures c.divided_by_zero.ensures.answer))

pub returns-then-x-eq0-2-clause-quotient : goal.returns-then-x-eq0-2-clause-quotient
returns-then-x-eq0-2-clause-quotient c = λ m s n t hx hy.
    let g = format_at c.args.into in
    let mode = c.args.round in
    let sign = product_sign c.args.x.negative c.args.y.negative in
    let v = datum_at c.args.into c.exact_zero.result.value in
    let i = bits_of c.exact_zero.result.status in
    let some : 0 < n = some_term t n c.args.y c.if-y-eq0.false hy in
    let a : m ≡ 0 = no_term s m c.args.x c.if-x-eq0-2.true hx in
    let z : 0 ≡ m * 2 ^ (t + g.scale) = subst (λ (k : ℕ). 0 ≡ k * 2 ^ (t + g.scale)) (sym a) (omega arith) in
    let d = subst (λ (b : Bool). IsDelivered g c.args.round b 0 (n * 2 ^ s) v i) c.product_sign-negative.ensures
    (c.exact_zero.ensures.delivered c.args.round (n * 2 ^ s) (mul-pos some (pow_pos s))) in
    some_yields g mode n (over_zero g sign m) (regular g sign m s n t) v i some
    (subst (λ (k : ℕ). IsDelivered g c.args.round sign k (n * 2 ^ s) v i) z d)

pub returns-clause-quotient : goal.returns-clause-quotient
returns-clause-quotient c = λ m s n t hx hy.
    let g = format_at c.args.into in
    let mode = c.args.round in
    let sign = product_sign c.args.x.negative c.args.y.negative in
    let v = datum_at c.args.into c.divide_nonzero.result.value in
    let i = bits_of c.divide_nonzero.result.status in
    let some : 0 < n = some_term t n c.args.y c.if-y-eq0.false hy in
    some_yields g mode n (over_zero g sign m) (regular g sign m s n t) v i some
    (c.divide_nonzero.ensures.quotient m s n t hx hy)
