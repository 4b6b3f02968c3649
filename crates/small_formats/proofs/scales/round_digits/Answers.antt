use Rattle.std.proofs.Common.{◌≡◌, ℕ, ◌*◌, ◌%◌, ◌^◌, ◌<◌, eqb, subst, ◌∙◌, arith, w32}
use Rattle.std.proofs.{Math.Nat.mul-pos, lemmas.Int.ints, lemmas.Int.to_z-of_z, lemmas.Nat.pow_pos}
use Rattle.apfloat_model.specs.rounding.{Flags.bits_of, Standing.StandsFor, Standing.up, Standing.down}
use Rattle.apfloat_model.proofs.arithmetic.SingleScalings.{down_far}
use Rattle.small_formats.proofs.ScalePicks.{MovesCode, below_least, code_moves, cut_stands, exact_scale}
use Rattle.small_formats.proofs.ScalePicks.{least_delivered, picked_code_is, scale_past, scale_within}
use Rattle.small_formats.proofs.scales.round_digits.Goals.{After-moved_code-picked}
use Rattle.small_formats.proofs.scales.round_digits.Goals as goal

pub returns-then-unit : goal.returns-then-unit
returns-then-unit c = λ amount parts u h.
    let e = to_z-of_z w32 c.args.unit c.ranges.unit in
    let small = rw e at c.if-unit.true in
    let far = down_far c.args.unit 125 (omega (arith, ints, small)) in
    least_delivered c.args.mode amount parts c.least.result.value (bits_of c.least.result.status)
    (below_least c.args.digits amount parts (up c.args.unit) (down c.args.unit) c.requires.high u far.1 far.0 h)
    c.least.ensures.value c.least.ensures.status

-- what the digits but the first one leave
stands_at : (c : After-moved_code-picked) → (amount parts : ℕ) → 0 < parts
    → amount * 2 ^ down c.args.unit ≡ c.args.digits * (parts * 2 ^ up c.args.unit)
    → StandsFor 1 c.shift_right-first.result.loss amount (2 ^ c.code_at-low.result * parts)
stands_at c amount parts u h =
    let e = to_z-of_z w32 c.args.unit c.ranges.unit in
    let z = c.args.unit in
    cut_stands c.args.digits c.shift_right-first.result.significand amount parts c.code_at-low.result
    c.shift_right-first.result.loss z (rw e at c.code_at-low.ensures.value) c.requires.low
    c.requires.high c.shift_right-first.ensures.quotient
    (c.shift_right-first.ensures.stands (amount * 2 ^ down z) (parts * 2 ^ up z) (mul-pos u (pow_pos (up z))) h)

-- nothing was lost before the cut
pub takes_next-moves-requires : goal.takes_next-moves-requires
takes_next-moves-requires c =
    subst (λ (n : ℕ). StandsFor n c.shift_right-first.result.loss c.args.digits (2 ^ 124 * 1))
    c.shift_right-first.ensures.quotient
    (c.shift_right-first.ensures.stands c.args.digits 1 (omega arith) (omega arith))

-- whether the mode moves the number from the scale below it
moved_at : (c : After-moved_code-picked) → (amount parts : ℕ) → 0 < parts
    → amount * 2 ^ down c.args.unit ≡ c.args.digits * (parts * 2 ^ up c.args.unit)
    → MovesCode c.args.mode amount parts c.code_at-low.result c.takes_next-moves.result
moved_at c amount parts u h =
    let e = to_z-of_z w32 c.args.unit c.ranges.unit in
    c.takes_next-moves.ensures
    ∙ code_moves c.args.mode c.args.digits amount parts c.code_at-low.result (eqb (c.code_at-low.result % 2) 1)
    c.args.unit u (rw e at c.code_at-low.ensures.value) c.requires.low c.requires.high h

pub returns-then-picked-from : goal.returns-then-picked-from
returns-then-picked-from c = λ amount parts u h.
    let after = (goal.at.returns-then-picked-from c).After-moved_code-picked in
    let stands = stands_at after amount parts u h in
    let mode = c.ieee_mode.ensures in
    scale_past c.args.mode amount parts c.moved_code-picked.result c.past.result.value (bits_of c.past.result.status)
    (picked_code_is c.args.mode amount parts c.code_at-low.result c.moved_code-picked.result
    c.shift_right-first.result.loss c.takes_next-moves.result u stands (moved_at after amount parts u h)
    c.moved_code-picked.ensures) (omega (arith, c.from.ensures, c.if-picked-from.true))
    (rw mode at c.past.ensures.value) (rw mode at c.past.ensures.status)

pub returns-else-picked-from : goal.returns-else-picked-from
returns-else-picked-from c = λ amount parts u h.
    let after = (goal.at.returns-else-picked-from c).After-moved_code-picked in
    let stands = stands_at after amount parts u h in
    let moved = moved_at after amount parts u h in
    scale_within c.args.mode amount parts c.moved_code-picked.result c.within.result.value
    (bits_of c.within.result.status) c.is_exact.result
    (picked_code_is c.args.mode amount parts c.code_at-low.result c.moved_code-picked.result
    c.shift_right-first.result.loss c.takes_next-moves.result u stands moved c.moved_code-picked.ensures)
    (exact_scale c.args.mode amount parts c.code_at-low.result c.moved_code-picked.result
    c.shift_right-first.result.loss c.takes_next-moves.result c.is_exact.result u stands moved
    c.moved_code-picked.ensures c.is_exact.ensures.yes c.is_exact.ensures.no)
    (omega (arith, c.from.ensures, c.if-picked-from.false)) c.within.ensures.value c.within.ensures.status
