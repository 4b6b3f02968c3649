use Rattle.std.proofs.Common.{◌≡◌, ℕ, sym, ap, ◌∙◌, lit<, ◌+◌, ◌-◌, ◌*◌, ◌^◌, refl, w32}
use Rattle.std.proofs.Common.{to_z, of_z, arith, ℤ, pos, ◌+ℤ◌, ◌-ℤ◌}
use Rattle.std.proofs.lemmas.{Nat.pow_pos, Int.to_z-of_z, Int.ints}
use Rattle.apfloat_model.specs.rounding.{Flags.bits_of, Standing.up, Standing.down}
use Rattle.apfloat_model.proofs.arithmetic.RootLaws.{square_whole}
use Rattle.apfloat_arithmetic.proofs.{RootStandings.delivered_of_standing, ProductExponents.normal_near}
use Rattle.apfloat_arithmetic.proofs.RootExponents.{root_is}
use Rattle.apfloat_rounding.specs.{Shapes.format_at, Stored.quanta_at, Stored.datum_at}
use borrow.Author.Differences.{fits_in}
use Rattle.apfloat_arithmetic.proofs.roots.root_of_number.Goals as goal

pub returns-clause-delivered : goal.returns-clause-delivered
returns-clause-delivered c =
    let s = c.args.shape in
    let x = normal_near s c.args.x.significand c.args.x.exponent c.requires in
    let half : ℤ = c.halves_of-exponent.result.half in
    let last : ℤ = c.last_exponent-last.result in
    let h : c.args.x.exponent ≡ (half +ℤ half) +ℤ pos c.halves_of-exponent.result.odd =
    rw x.word at c.halves_of-exponent.ensures.halves in
    let w : to_z w32 (of_z w32 last) ≡ last = to_z-of_z w32 last (record { sfits = c.last_exponent-last.type_inv }) in
    let u : to_z w32 (of_z w32 half) ≡ half =
    to_z-of_z w32 half (fits_in w32 half (omega (arith, ints, c.halves_of-exponent.ensures.within))) in
    let v : last ≡ half -ℤ pos (s.precision - 1) = rw u at c.last_exponent-last.ensures.value in
    let unit : ℤ = last +ℤ pos (format_at s).scale in
    delivered_of_standing (format_at s) c.args.round
    (quanta_at s.min_exp c.args.x.significand c.args.x.exponent * 2 ^ (format_at s).scale) 1
    (c.args.x.significand * 2 ^ (s.precision - 1 + c.halves_of-exponent.result.odd)) (2 ^ up unit)
    (2 ^ down unit) c.root_of-root.result.whole c.root_of-root.result.loss (datum_at s c.deliver.result.value)
    (bits_of c.deliver.result.status) (lit< tt) (pow_pos (up unit)) (pow_pos (down unit))
    (root_is s c.args.x.exponent half last c.args.x.significand (s.precision - 1 + c.halves_of-exponent.result.odd)
    c.halves_of-exponent.result.odd c.requires h refl v ∙
    ap (λ (x : ℕ). c.args.x.significand * 2 ^ (s.precision - 1 + c.halves_of-exponent.result.odd) * x)
    (sym (square_whole (2 ^ up unit)))) c.root_of-root.ensures.stands (rw w at c.deliver.ensures.delivered)
