use Rattle.std.proofs.Common.{◌≡◌, ℤ, ◌+◌, ◌*◌, ◌^◌, sym, ◌∙◌, subst, to_z, of_z, w32}
use Rattle.std.proofs.lemmas.Int.{to_z-of_z}
use Rattle.apfloat_model.specs.rounding.{RoundingToOdd.IsRoundedToOdd, Standing.up, Standing.down}
use Rattle.apfloat_rounding.proofs.FineCuts.{all_kept}
use Rattle.apfloat_rounding.proofs.rounding.from_word.deliver_counted_word.Goals as goal

pub returns-then-unit-geminus2-clause-delivered : goal.returns-then-unit-geminus2-clause-delivered
returns-then-unit-geminus2-clause-delivered c = λ amount parts u h.
    let unit = c.unit_place-unit.result in
    let v = rw (to_z-of_z w32 c.args.exponent c.ranges.exponent) at c.unit_place-unit.ensures.value in
    let w : to_z w32 (of_z w32 unit) ≡ unit =
    to_z-of_z w32 unit (record { sfits = c.unit_place-unit.type_inv }) in
    let h' = subst (λ (x : ℤ). IsRoundedToOdd (2 ^ (c.args.shape.precision + 1)) c.args.significand
    (amount * 2 ^ down x) (parts * 2 ^ up x)) (sym v ∙ sym w) h in
    c.round.ensures.delivered amount parts u (c.cut_quarters-cut.ensures.cut amount parts u h')
    (λ r. all_kept c.args.shape.precision c.cut_quarters-cut.result amount parts c.cut_quarters-cut.ensures.full)

pub returns-clause-delivered : goal.returns-clause-delivered
returns-clause-delivered c = λ amount parts u h.
    let unit = c.unit_place-unit.result in
    let v = rw (to_z-of_z w32 c.args.exponent c.ranges.exponent) at c.unit_place-unit.ensures.value in
    let w : to_z w32 (of_z w32 unit) ≡ unit =
    to_z-of_z w32 unit (record { sfits = c.unit_place-unit.type_inv }) in
    let h' = subst (λ (x : ℤ). IsRoundedToOdd (2 ^ (c.args.shape.precision + 1)) c.args.significand
    (amount * 2 ^ down x) (parts * 2 ^ up x)) (sym v ∙ sym w) h in
    let x = c.cut_at_quantum-cut.ensures.cut amount parts u h' in
    c.round_below.ensures.delivered amount parts u x.0 (λ r. x.1)
