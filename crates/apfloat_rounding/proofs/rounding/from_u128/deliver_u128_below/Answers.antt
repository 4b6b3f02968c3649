use Rattle.std.proofs.Common.{ℤ, pos, ◌+ℤ◌, ◌+◌, ◌*◌, ◌/◌, ◌%◌, ◌^◌, ⊎_elim, arith, w32}
use Rattle.std.proofs.{Math.Nat.mul-pos, lemmas.Int.ints, lemmas.Int.to_z-of_z, lemmas.Nat.pow_pos}
use Rattle.apfloat_model.specs.rounding.Standing.{up, down}
use Rattle.apfloat_rounding.specs.{Cuts.loss_at, Shapes.format_at}
use Rattle.apfloat_rounding.proofs.{OddCuts.exact_if_short, QuantumCuts.folded_stands, QuantumCuts.quarters_stand}
use borrow.Author.Differences.{fits_in}
use Rattle.apfloat_rounding.proofs.rounding.from_u128.deliver_u128_below.Goals as goal

pub returns-then-unit_place-geminus2-clause-delivered : goal.returns-then-unit_place-geminus2-clause-delivered
returns-then-unit_place-geminus2-clause-delivered c = λ amount parts p h.
    let unit : ℤ = c.args.exponent +ℤ pos (format_at c.args.shape).scale in
    let e = to_z-of_z w32 c.args.exponent c.ranges.exponent in
    let v = rw e at c.unit_place.ensures.value in
    let f = c.requires.exact (omega (arith, ints, c.if-unit_place-geminus2.true, v)) in
    let r = rw e at c.deliver_any.ensures.delivered in
    r amount parts p
    (exact_if_short c.args.significand c.args.shape.precision (amount * 2 ^ down unit) (parts * 2 ^ up unit) f h)

pub returns-clause-delivered : goal.returns-clause-delivered
returns-clause-delivered c = λ amount parts p h.
    let s = c.args.significand in
    let scale = (format_at c.args.shape).scale in
    let unit : ℤ = c.args.exponent +ℤ pos scale in
    let above : ℤ = (c.args.exponent +ℤ pos 2) +ℤ pos scale in
    let q = quarters_stand (2 ^ (c.args.shape.precision + 1)) s (amount * 2 ^ down unit) (parts * 2 ^ up unit)
    (mul-pos p (pow_pos (up unit))) h in
    let g = folded_stands (s / 4) (loss_at (s % 4) 2) 2 (up unit) (down unit) (up above) (down above) amount parts
    (omega (arith, ints)) q in
    let next : ℤ = c.args.exponent +ℤ pos 2 in
    let e = to_z-of_z w32 next (fits_in w32 next (omega (arith, ints, c.requires.within))) in
    let e' = to_z-of_z w32 c.args.exponent c.ranges.exponent in
    let r = rw (e', e, c.loss_of.ensures) at c.deliver_any-2.ensures.delivered in
    r amount parts p g
