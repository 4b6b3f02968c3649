use Rattle.std.proofs.Common.{ap, ◌∙◌, sym, ℕ, w32, pos, ◌+ℤ◌, min, arith}
use Rattle.std.proofs.lemmas.Int.{ints, to_z-of_z}
use Rattle.apfloat_model.specs.arithmetic.Exact.{up}
use Rattle.apfloat_model.proofs.arithmetic.{SingleScalings.up_far, Signs.no_up}
use Rattle.small_formats.proofs.blocks_lemmas.ScaleCodes.{far_fits, inside, min_left, min_right}
use Rattle.small_formats.proofs.blocks.mx_scales.clamped_code.Goals as goal

-- at most 0
pub returns-then-code-le0 : goal.returns-then-code-le0
returns-then-code-le0 c =
    let e = to_z-of_z w32 c.args.exponent c.ranges.exponent in
    let low = rw e at c.if-code-le0.true in
    let none = no_up (c.args.exponent +ℤ pos 127) (omega (arith, ints, low)) in
    sym (ap (λ (n : ℕ). min n 254) none ∙ min_left 0 254 (omega arith))

-- at least 254
pub returns-then-code-from : goal.returns-then-code-from
returns-then-code-from c =
    let e = to_z-of_z w32 c.args.exponent c.ranges.exponent in
    let high = rw e at c.if-code-from.true in
    let far = up_far (c.args.exponent +ℤ pos 127) 254 (omega (arith, ints, high, c.from.ensures)) in
    sym (min_right (up (c.args.exponent +ℤ pos 127)) 254 far.0)

-- between them the code is its exponent and 127
pub returns-else-code-from : goal.returns-else-code-from
returns-else-code-from c =
    let e = to_z-of_z w32 c.args.exponent c.ranges.exponent in
    let within = c.requires in
    let below = within.low in
    let above = within.high in
    let z = c.args.exponent +ℤ pos 127 in
    let whole = to_z-of_z w32 z
    (far_fits z (record { low = omega (arith, ints, below); high = omega (arith, ints, above) })) in
    let low = rw (e, whole) at c.if-code-le0.false in
    let high = rw (e, whole) at c.if-code-from.false in
    rw (e, whole) (inside z (omega (arith, ints, low)) (omega (arith, ints, high, c.from.ensures)))
