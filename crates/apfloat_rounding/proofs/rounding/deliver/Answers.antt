use Rattle.std.proofs.Common.{◌≡◌, ◌*◌, ◌^◌, sym, ◌∙◌, subst, ℤ, true, to_z, of_z, w32}
use Rattle.std.proofs.lemmas.Int.{to_z-of_z}
use Rattle.apfloat_model.specs.rounding.Standing.{StandsFor, IsFineFor, reads_halves, up, down}
use Rattle.apfloat_rounding.specs.Shapes.{format_at}
use Rattle.apfloat_rounding.proofs.HalfQuanta.{halves_fine}
use Rattle.apfloat_rounding.proofs.rounding.deliver.Goals as goal

pub returns-clause-delivered : goal.returns-clause-delivered
returns-clause-delivered c = λ amount parts u h.
    let v = rw (to_z-of_z w32 c.args.exponent c.ranges.exponent) at c.unit_place-unit.ensures.value in
    let w : to_z w32 (of_z w32 c.unit_place-unit.result) ≡ c.unit_place-unit.result =
    to_z-of_z w32 c.unit_place-unit.result (record { sfits = c.unit_place-unit.type_inv }) in
    let h' : StandsFor c.args.significand c.args.loss (amount * 2 ^ down (to_z w32 (of_z w32 c.unit_place-unit.result)))
    (parts * 2 ^ up (to_z w32 (of_z w32 c.unit_place-unit.result))) =
    subst (λ (x : ℤ). StandsFor c.args.significand c.args.loss (amount * 2 ^ down x) (parts * 2 ^ up x))
    (sym v ∙ sym w) h in
    c.round.ensures.delivered amount parts u (c.keep-cut.ensures.cut amount parts u h')
    (λ (r : reads_halves (format_at c.args.shape) ≡ true).
    let f = halves_fine (format_at c.args.shape) c.args.significand
    (to_z w32 (of_z w32 c.unit_place-unit.result)) c.args.loss r
    (subst (λ (x : ℤ). IsFineFor (format_at c.args.shape) c.args.significand x c.args.loss) (sym v ∙ sym w)
    c.requires.fine) in
    c.keep-cut.ensures.finely f amount parts u h')
