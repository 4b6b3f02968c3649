use Rattle.std.proofs.Common.{ℕ, ◌%◌, ◌^◌, ap, sym, ◌∙◌, arith}
use Rattle.std.proofs.lemmas.Int.{ints}
use Rattle.apfloat_machines.proofs.Residues.{whole_up, whole_down, whole_short}
use Rattle.apfloat_machines.proofs.modulo.digits_at.Goals as goal

pub returns-then-exponent-ge0 : goal.returns-then-exponent-ge0
returns-then-exponent-ge0 c = λ scale quanta h.
    c.moved_up.ensures
    ∙ ap (λ (n : ℕ). n % 2 ^ 128)
    (sym (whole_up scale c.args.exponent quanta c.args.significand c.steps_between.result
    (omega (arith, ints, c.steps_between.ensures)) h))

pub returns-else-exponent-ge0 : goal.returns-else-exponent-ge0
returns-else-exponent-ge0 c = λ scale quanta h.
    let places = c.steps_between-else-exponent-ge0.result in
    c.shift_right.ensures.quotient
    ∙ whole_short scale quanta c.args.significand places c.ranges.significand.fits
    (whole_down scale c.args.exponent quanta c.args.significand places
    (omega (arith, ints, c.steps_between-else-exponent-ge0.ensures)) h)
