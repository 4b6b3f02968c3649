use Rattle.std.proofs.Common.{◌≡◌, ◌+◌, ◌^◌, ◌+ℤ◌, Bool, pos, subst, to_z, of_z, w32, arith}
use Rattle.std.proofs.lemmas.Int.{ints}
use Rattle.apfloat_model.specs.arithmetic.{Exact.signed, Exact.sign_of, Exact.magnitude, Sums.zero_sum_sign}
use Rattle.apfloat_model.specs.rounding.{Flags.bits_of, Rounding.IsDelivered}
use Rattle.apfloat_rounding.specs.{Shapes.format_at, Stored.quanta_at, Stored.datum_at}
use Rattle.apfloat_arithmetic.proofs.{Additions.read_odd_sign, DeliveredTotals.sum_total, Ranges.wider}
use Rattle.apfloat_arithmetic.proofs.sums.add_word_numbers.Goals as goal

pub full_term-requires : goal.full_term-requires
full_term-requires c = c.requires.normal.left

pub full_term-requires-2 : goal.full_term-requires-2
full_term-requires-2 c = c.requires.normal.right

pub add_word_terms-total-requires-clause-some : goal.add_word_terms-total-requires-clause-some
add_word_terms-total-requires-clause-some c = omega (arith, c.args.shape.parameters.precision_low)

pub add_word_terms-total-requires-clause-short : goal.add_word_terms-total-requires-clause-short
add_word_terms-total-requires-clause-short c = c.requires.short

pub add_word_terms-total-requires-clause-x : goal.add_word_terms-total-requires-clause-x
add_word_terms-total-requires-clause-x c = wider _ _ _ (omega arith) c.full_term.ensures.within

pub add_word_terms-total-requires-clause-y : goal.add_word_terms-total-requires-clause-y
add_word_terms-total-requires-clause-y c = wider _ _ _ (omega arith) c.full_term-2.ensures.within

pub deliver_word-requires-clause-within : goal.deliver_word-requires-clause-within
deliver_word-requires-clause-within c =
    let l = c.args.shape.parameters in
    let x = c.full_term.ensures.within in
    let y = c.full_term-2.ensures.within in
    let g = c.add_word_terms-total.ensures.exponent.one in
    record {
      low = omega (arith, ints, l, x, y, g);
      high = omega (arith, ints, l, x, y, g);
    }

pub deliver_word-requires-clause-short : goal.deliver_word-requires-clause-short
deliver_word-requires-clause-short c = c.requires.short

pub returns-clause-delivered : goal.returns-clause-delivered
returns-clause-delivered c =
    let s = c.args.shape in
    let x = c.args.x in
    let y = c.args.y in
    let left = c.full_term in
    let right = c.full_term-2 in
    let total = c.add_word_terms-total in
    let g = rw (
      left.ensures.negative,
      left.ensures.significand,
      right.ensures.negative,
      right.ensures.significand,
    ) at total.ensures.rounded in
    let r = sum_total s 60 62 _ _ _ _ _ _ _ _ _ _ _ (omega (arith, c.requires.short)) c.requires.normal.left
    c.requires.normal.right left.ensures.exponent right.ensures.exponent g in
    let of_zero = zero_sum_sign c.args.round x.negative y.negative in
    let exact = signed x.negative (quanta_at s.min_exp x.significand x.exponent) +ℤ
    signed y.negative (quanta_at s.min_exp y.significand y.exponent) in
    let w : to_z w32 (of_z w32 total.result.exponent) ≡ total.result.exponent =
    omega (arith, ints, s.parameters, left.ensures.within, right.ensures.within, total.ensures.exponent.one) in
    let d = rw w at c.deliver_word.ensures.delivered in
    let z = rw (c.sign_of_zero-of_zero.ensures, c.from.ensures) at c.sign_of_odd_total-negative.ensures.zero in
    let other = rw c.from.ensures at c.sign_of_odd_total-negative.ensures.other in
    let e : c.sign_of_odd_total-negative.result ≡ sign_of of_zero exact =
    read_odd_sign (2 ^ (s.precision + 1)) of_zero exact (total.result.exponent +ℤ pos (format_at s).scale)
    total.result.negative c.sign_of_odd_total-negative.result total.result.significand
    (record { rounded = r.rounded; is = r.is }) z other in
    subst (λ (b : Bool). IsDelivered (format_at s) c.args.round b (magnitude exact) 1
    (datum_at s c.deliver_word.result.value) (bits_of c.deliver_word.result.status)) e (d (magnitude exact) r.rounded)
