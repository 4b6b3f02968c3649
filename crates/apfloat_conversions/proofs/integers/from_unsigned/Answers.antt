use Rattle.std.proofs.Common.{◌≡◌, ℕ, ◌+◌, ◌-◌, ◌*◌, ◌^◌, ◌<◌, false, subst, sym, ap, ◌∙◌, arith, ℤ, pos, ◌+ℤ◌, ◌-ℤ◌}
use Rattle.std.proofs.{Common.◌≤◌, Common.w32, lemmas.Int.ints, lemmas.Int.to_z-of_z, lemmas.Nat.pow-add}
use Rattle.apfloat_model.proofs.rounding.Laws.{zero_delivered}
use Rattle.apfloat_model.specs.rounding.Standing.{up, down}
use Rattle.apfloat_rounding.specs.Shapes.{format_at}
use Rattle.apfloat_conversions.proofs.integers.from_unsigned.Goals as goal

pub deliver_counted_u128-requires-clause-within : goal.deliver_counted_u128-requires-clause-within
deliver_counted_u128-requires-clause-within c =
    record {
      low = omega (arith, ints, c.aligned_exponent.ensures);
      high = omega (arith, ints, c.aligned_exponent.ensures);
    }

-- the units of a shifted integer and those of 1 agree, each in quanta of 2 ^ -scale
moved_units : (number scale places up down : ℕ) → scale + down ≡ places + up
    → number * 2 ^ scale * 2 ^ down ≡ number * 2 ^ places * (1 * 2 ^ up)
moved_units number scale places up down e =
    let a : 2 ^ scale * 2 ^ down ≡ 2 ^ places * 2 ^ up =
    sym (pow-add 2 scale down) ∙ ap (λ (x : ℕ). 2 ^ x) e ∙ pow-add 2 places up in
    omega (arith, ap (λ (x : ℕ). number * x) a)

balanced_units : (count scale : ℕ) (e : ℤ) → count ≤ 128 → e ≡ pos count -ℤ pos 128
    → scale + down (e +ℤ pos scale) ≡ 128 - count + up (e +ℤ pos scale)
balanced_units count scale e l v = omega (arith, ints)

pub returns-then-count-eq0-clause-delivered : goal.returns-then-count-eq0-clause-delivered
returns-then-count-eq0-clause-delivered c =
    let f = format_at c.args.shape in
    let k : c.args.number < 2 ^ 0 =
    subst (λ (x : ℕ). c.args.number < 2 ^ x) c.if-count-eq0.true c.digits-count.ensures.below in
    let n : c.args.number ≡ 0 = omega (arith, k) in
    let z : c.args.number * 2 ^ f.scale ≡ 0 = ap (λ (x : ℕ). x * 2 ^ f.scale) n ∙ omega arith in
    rw (c.and.ensures.value, c.and.ensures.status, c.zero_of.ensures.datum)
    (zero_delivered f c.args.round false 1 (c.args.number * 2 ^ f.scale) (omega arith) z)

pub returns-clause-delivered : goal.returns-clause-delivered
returns-clause-delivered c =
    let scale = (format_at c.args.shape).scale in
    let count = c.digits-count.result in
    let w = to_z-of_z w32 c.aligned_exponent.result (record { sfits = c.aligned_exponent.type_inv }) in
    let g = rw w at c.deliver_counted_u128.ensures.delivered in
    let unit : ℤ = c.aligned_exponent.result +ℤ pos scale in
    let a = c.aligned-significand.ensures.value in
    g (c.args.number * 2 ^ scale) 1 (omega arith) (moved_units c.args.number scale (128 - count) (up unit) (down unit)
    (balanced_units count scale c.aligned_exponent.result c.digits-count.ensures.bound c.aligned_exponent.ensures)
    ∙ ap (λ (x : ℕ). x * (1 * 2 ^ up unit)) (sym a))
