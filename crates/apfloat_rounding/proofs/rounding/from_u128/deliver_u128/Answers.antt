use Rattle.std.proofs.Common.{◌≡◌, ℕ, ℤ, pos, ◌+ℤ◌, ◌≤ℤ◌, ◌+◌, ◌*◌, ◌^◌, ◌<◌, sym, ◌∙◌, subst, to_z, of_z, w32, arith}
use Rattle.std.proofs.lemmas.Int.{ints, to_z-of_z}
use Rattle.apfloat_model.specs.rounding.{RoundingToOdd.IsRoundedToOdd, Standing.up, Standing.down}
use Rattle.apfloat_rounding.specs.Shapes.{format_at}
use Rattle.apfloat_rounding.proofs.{FineCuts.all_kept, OddCuts.few_digits}
use Rattle.apfloat_rounding.proofs.rounding.from_u128.deliver_u128.Goals.{else-digits-gt0-via-then-digits-gt0+else-unit-digits}
use Rattle.apfloat_rounding.proofs.rounding.from_u128.deliver_u128.Goals.{else-digits-gt0-via-else-digits-gt0}
use Rattle.apfloat_rounding.proofs.rounding.from_u128.deliver_u128.Goals as goal

pub returns-then-unit-digits-clause-delivered : goal.returns-then-unit-digits-clause-delivered
returns-then-unit-digits-clause-delivered c = λ amount parts p h.
    let v = rw (to_z-of_z w32 c.args.exponent c.ranges.exponent) at c.unit_place-unit.ensures.value in
    let w : to_z w32 (of_z w32 c.unit_place-unit.result) ≡ c.unit_place-unit.result =
    to_z-of_z w32 c.unit_place-unit.result (record { sfits = c.unit_place-unit.type_inv }) in
    let h' : IsRoundedToOdd (2 ^ (c.args.shape.precision + 1)) c.args.significand
    (amount * 2 ^ down (to_z w32 (of_z w32 c.unit_place-unit.result)))
    (parts * 2 ^ up (to_z w32 (of_z w32 c.unit_place-unit.result))) =
    subst (λ (x : ℤ). IsRoundedToOdd (2 ^ (c.args.shape.precision + 1)) c.args.significand (amount * 2 ^ down x)
    (parts * 2 ^ up x)) (sym v ∙ sym w) h in
    c.round.ensures.delivered amount parts p (c.cut_u128-cut.ensures.cut amount parts p h')
    (λ r. all_kept c.args.shape.precision c.cut_u128-cut.result amount parts c.cut_u128-cut.ensures.full)

pub deliver_u128_below-requires-clause-exact : goal.deliver_u128_below-requires-clause-exact
deliver_u128_below-requires-clause-exact c =
    let e = to_z-of_z w32 c.args.exponent c.ranges.exponent in
    let v = rw e at c.unit_place-unit.ensures.value in
    let s = c.digits-digits.ensures.below in
    rw (c.remade.ensures, e) (λ (l : pos 0 ≤ℤ ((c.args.exponent +ℤ pos (format_at c.args.shape).scale) +ℤ pos 2)).
    elim c.else-digits-gt0.branch [
      | else-digits-gt0-via-then-digits-gt0+else-unit-digits w ↦ few_digits c.args.significand
          c.digits-digits.result c.args.shape.precision s
          (omega (
            arith,
            ints,
            w.if-unit-digits.false,
            c.args.shape.parameters,
            c.unit_place-unit.ensures.within,
            c.digits-digits.ensures.bound,
            v,
            l,
          ))
      | else-digits-gt0-via-else-digits-gt0 w ↦ few_digits c.args.significand c.digits-digits.result
          c.args.shape.precision s (omega (arith, w.if-digits-gt0.false))
    ])

pub returns-clause-delivered : goal.returns-clause-delivered
returns-clause-delivered c =
    let e = to_z-of_z w32 c.args.exponent c.ranges.exponent in
    let d = rw (c.remade.ensures, e) at c.deliver_u128_below.ensures.delivered in
    rw c.remade-2.ensures d
