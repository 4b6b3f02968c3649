use Rattle.std.proofs.{Math.Nat.pow-le-pow_right, lemmas.Int.to_z-of_z, lemmas.Int.ints, lemmas.Nat.pow_pos}
use Rattle.std.proofs.Common.{◌≡◌, ◌+◌, ◌-◌, ◌*◌, ◌^◌, ◌≤◌, ℤ, pos, ◌+ℤ◌, ◌-ℤ◌, w32, to_z, of_z, inr, arith}
use Rattle.apfloat_model.specs.rounding.{Flags.bits_of, Standing.up, Standing.down}
use Rattle.apfloat_model.proofs.general.Powers.{two_pos}
use Rattle.apfloat_rounding.specs.{Shapes.format_at, Stored.datum_at}
use Rattle.apfloat_arithmetic.proofs.{RootStandings.delivered_of_standing, other_formats_lemmas.RootExponents.root_is}
use borrow.Author.Differences.{fits_in}
use Rattle.apfloat_arithmetic.proofs.other_formats.roots.root_of_nonzero.Goals as goal

pub deliver-requires-clause-fine : goal.deliver-requires-clause-fine
deliver-requires-clause-fine c =
    let p = c.args.into.parameters.precision_high in
    let few : c.args.into.precision - 1 ≤ 124 = omega (arith, p) in
    let a : 2 ^ (c.args.into.precision - 1) ≤ 2 ^ 124 = pow-le-pow_right two_pos few in
    let q : 2 ^ 124 ≤ c.root_of-root.result.whole = c.root_of-root.ensures.root_full in
    inr (inr (omega (arith, a, q)))

pub returns-clause-root : goal.returns-clause-root
returns-clause-root c = λ m s h.
    let g = format_at c.args.into in
    let x = c.args.x in
    let half : ℤ = c.halves_of-exponent.result.half in
    let odd = c.halves_of-exponent.result.odd in
    let last : ℤ = c.lowered-last.result in
    let t : to_z w32 (of_z w32 x.exponent) ≡ x.exponent =
    to_z-of_z w32 x.exponent (fits_in w32 x.exponent (omega (arith, ints, c.requires.term.within))) in
    let e : x.exponent ≡ (half +ℤ half) +ℤ pos odd = rw t at c.halves_of-exponent.ensures.halves in
    let u : to_z w32 (of_z w32 half) ≡ half =
    to_z-of_z w32 half (fits_in w32 half (omega (arith, ints, c.halves_of-exponent.ensures.within))) in
    let v : last ≡ half -ℤ pos 62 = rw u at c.lowered-last.ensures.value in
    let w : to_z w32 (of_z w32 last) ≡ last = to_z-of_z w32 last (record { sfits = c.lowered-last.type_inv }) in
    let unit : ℤ = last +ℤ pos g.scale in
    delivered_of_standing g c.args.round (m * 2 ^ s * (2 ^ g.scale * 2 ^ g.scale)) (2 ^ s)
    (x.significand * 2 ^ (124 + odd)) (2 ^ up unit) (2 ^ down unit) c.root_of-root.result.whole
    c.root_of-root.result.loss (datum_at c.args.into c.deliver.result.value) (bits_of c.deliver.result.status)
    (pow_pos s) (pow_pos (up unit)) (pow_pos (down unit))
    (root_is m x.significand s g.scale odd x.exponent half last h e v) c.root_of-root.ensures.stands
    (rw w at c.deliver.ensures.delivered)
