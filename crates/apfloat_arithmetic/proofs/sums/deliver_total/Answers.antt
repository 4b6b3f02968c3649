use Rattle.std.proofs.{Math.Nat.mul-pos, Math.Path.subst₂, lemmas.Int.ints, lemmas.Nat.pow_pos}
use Rattle.std.proofs.Common.{◌≡◌, ◌+◌, ◌*◌, ◌^◌, ◌<◌, ◌+ℤ◌, Bool, ℕ, pos, sym, to_z, of_z, w32, arith}
use Rattle.apfloat_model.specs.arithmetic.{Exact.signed, Exact.sign_of, Sums.zero_sum_sign}
use Rattle.apfloat_model.specs.rounding.{Flags.bits_of, Rounding.IsDelivered, Standing.up, Standing.down}
use Rattle.apfloat_model.proofs.arithmetic.Signs.{magnitude_signed}
use Rattle.apfloat_rounding.specs.{Shapes.format_at, Stored.datum_at}
use Rattle.apfloat_arithmetic.proofs.Additions.{odd_sign}
use Rattle.apfloat_arithmetic.proofs.sums.deliver_total.Goals as goal

pub returns-clause-delivered : goal.returns-clause-delivered
returns-clause-delivered c = λ amount parts p h.
    let s = c.args.shape in
    let total = c.args.total in
    let unit = total.exponent +ℤ pos (format_at s).scale in
    let of_zero = zero_sum_sign c.args.round c.args.left c.args.right in
    let w : to_z w32 (of_z w32 total.exponent) ≡ total.exponent = omega (arith, ints, c.requires) in
    let d = rw w at c.deliver_u128.ensures.delivered in
    let z = rw c.sign_of_zero-of_zero.ensures at c.sign_of_odd_total-negative.ensures.zero in
    let some : 0 < parts * 2 ^ up unit = mul-pos p (pow_pos (up unit)) in
    let e : c.sign_of_odd_total-negative.result ≡ sign_of of_zero (signed total.negative amount) =
    odd_sign (2 ^ (s.precision + 1)) of_zero total.negative c.sign_of_odd_total-negative.result total.significand amount
    (2 ^ down unit) (parts * 2 ^ up unit) (pow_pos (down unit)) some h z c.sign_of_odd_total-negative.ensures.other in
    subst₂ (λ (b : Bool) (n : ℕ). IsDelivered (format_at s) c.args.round b n parts
    (datum_at s c.deliver_u128.result.value) (bits_of c.deliver_u128.result.status)) e
    (sym (magnitude_signed total.negative amount)) (d amount parts p h)
