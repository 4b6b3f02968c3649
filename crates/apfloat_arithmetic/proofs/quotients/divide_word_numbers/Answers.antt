use Rattle.std.proofs.Common.{◌≡◌, ℕ, ℤ, ◌<◌, ◌≤◌, ◌+◌, ◌*◌, ◌^◌, Bool, w32, to_z, of_z, sym, ap, ◌∙◌, subst, arith}
use Rattle.std.proofs.lemmas.Int.{to_z-of_z}
use Rattle.apfloat_model.specs.rounding.{Flags.bits_of, Rounding.IsDelivered}
use Rattle.apfloat_model.specs.rounding.RoundingToOdd.{IsRoundedToOdd, odd_quotient}
use Rattle.apfloat_model.proofs.rounding.OddRoundings.{quotient_to_odd}
use Rattle.apfloat_rounding.specs.{declared.shape.Shape.Shape, Shapes.format_at}
use Rattle.apfloat_rounding.specs.Stored.{IsNormalAt, quanta_at, datum_at}
use Rattle.apfloat_rounding.proofs.StoredBack.{quanta_some}
use Rattle.apfloat_arithmetic.proofs.WordQuotients.{IsClose, in_word, moved_close, moved_fits, moved_places}
use Rattle.apfloat_arithmetic.proofs.WordQuotients.{quotient_long, odd_quotient_long, odd_quotient_fits}
use Rattle.apfloat_arithmetic.proofs.ProductExponents.{normal_near, normal_some, odd_quotient_is}
use Rattle.apfloat_arithmetic.proofs.quotients.divide_word_numbers.Goals.{After-word_quotient_of}
use Rattle.apfloat_arithmetic.proofs.quotients.divide_word_numbers.Goals as goal

-- the dividend and the divisor, where the first was moved up if it was less
close_at : (s : Shape) (m n up : ℕ) (x y : ℤ) → IsNormalAt s m x → IsNormalAt s n y → (m < n → up ≡ 1)
    → (n ≤ m → up ≡ 0) → IsClose m n s.precision up
close_at s m n up x y left right less close =
    let t = s.parameters.precision_low in
    record {
      some = omega (arith, t);
      dividend_fits = left.operand.fits;
      dividend_full = left.operand.full;
      divisor_fits = right.operand.fits;
      divisor_full = right.operand.full;
      less = less;
      close = close;
    }

close : (c : After-word_quotient_of)
    → IsClose c.args.x.significand c.args.y.significand c.args.shape.precision c.places_up-up.result
close c =
    close_at c.args.shape c.args.x.significand c.args.y.significand c.places_up-up.result c.args.x.exponent
    c.args.y.exponent c.requires.normal.left c.requires.normal.right
    c.places_up-up.ensures.less c.places_up-up.ensures.close

pub overflow_cast-dividend : goal.overflow_cast-dividend
overflow_cast-dividend c =
    let s = c.args.shape in
    record { fits = in_word c.args.x.significand s.precision c.requires.short c.requires.normal.left.operand.fits }

pub overflow_cast-divisor : goal.overflow_cast-divisor
overflow_cast-divisor c =
    let s = c.args.shape in
    record { fits = in_word c.args.y.significand s.precision c.requires.short c.requires.normal.right.operand.fits }

pub word_quotient_of-requires-clause-some : goal.word_quotient_of-requires-clause-some
word_quotient_of-requires-clause-some c = omega (arith, c.args.shape.parameters.precision_low)

pub word_quotient_of-requires-clause-short : goal.word_quotient_of-requires-clause-short
word_quotient_of-requires-clause-short c = c.requires.short

pub word_quotient_of-requires-clause-close : goal.word_quotient_of-requires-clause-close
word_quotient_of-requires-clause-close c =
    let s = c.args.shape in
    let m = c.args.x.significand in
    let n = c.args.y.significand in
    let up = c.places_up-up.result in
    let i = close_at s m n up c.args.x.exponent c.args.y.exponent c.requires.normal.left c.requires.normal.right
    c.places_up-up.ensures.less c.places_up-up.ensures.close in
    rw (moved_fits m n s.precision up c.requires.short i) (moved_close m n s.precision up i).1

pub word_quotient_of-requires-clause-divisor_fits : goal.word_quotient_of-requires-clause-divisor_fits
word_quotient_of-requires-clause-divisor_fits c = c.requires.normal.right.operand.fits

pub word_quotient_of-requires-clause-divisor_full : goal.word_quotient_of-requires-clause-divisor_full
word_quotient_of-requires-clause-divisor_full c = c.requires.normal.right.operand.full

pub quotient_exponent-requires-clause-left : goal.quotient_exponent-requires-clause-left
quotient_exponent-requires-clause-left c =
    let x = normal_near c.args.shape c.args.x.significand c.args.x.exponent c.requires.normal.left in
    rw x.word x.within

pub quotient_exponent-requires-clause-right : goal.quotient_exponent-requires-clause-right
quotient_exponent-requires-clause-right c =
    let y = normal_near c.args.shape c.args.y.significand c.args.y.exponent c.requires.normal.right in
    rw y.word y.within

pub quotient_exponent-requires-clause-short : goal.quotient_exponent-requires-clause-short
quotient_exponent-requires-clause-short c = omega (arith, c.requires.short, c.places_up-up.ensures.bound)

pub deliver_counted_word-requires-clause-short : goal.deliver_counted_word-requires-clause-short
deliver_counted_word-requires-clause-short c = c.requires.short

pub deliver_counted_word-requires-clause-within : goal.deliver_counted_word-requires-clause-within
deliver_counted_word-requires-clause-within c =
    rw (to_z-of_z w32 c.quotient_exponent.result (record { sfits = c.quotient_exponent.type_inv }))
    c.quotient_exponent.ensures.within

pub returns-clause-stored : goal.returns-clause-stored
returns-clause-stored c = c.deliver_counted_word.ensures.stored

quotient : (c : After-word_quotient_of) → c.word_quotient_of.result
    ≡ odd_quotient (c.args.x.significand * 2 ^ c.places_up-up.result * 2 ^ (c.args.shape.precision + 1))
    c.args.y.significand
quotient c =
    let f = moved_fits c.args.x.significand c.args.y.significand c.args.shape.precision c.places_up-up.result
    c.requires.short (close c) in
    c.word_quotient_of.ensures
    ∙ ap (λ (n : ℕ). odd_quotient (n * 2 ^ (c.args.shape.precision + 1)) c.args.y.significand) f

pub deliver_counted_word-requires-clause-fits : goal.deliver_counted_word-requires-clause-fits
deliver_counted_word-requires-clause-fits c =
    let state = (goal.at.deliver_counted_word-requires-clause-fits c).After-word_quotient_of in
    let s = c.args.shape in
    let b = moved_close c.args.x.significand c.args.y.significand s.precision c.places_up-up.result (close state) in
    let f = odd_quotient_fits c.word_quotient_of.result (c.args.x.significand * 2 ^ c.places_up-up.result)
    c.args.y.significand (s.precision + 1)
    (normal_some s c.args.y.significand c.args.y.exponent c.requires.normal.right) b.1 (quotient state) in
    let e : c.args.shape.precision + 1 + 1 ≡ c.args.shape.precision + 2 = omega arith in
    rw e at f

pub deliver_counted_word-requires-clause-full : goal.deliver_counted_word-requires-clause-full
deliver_counted_word-requires-clause-full c =
    let state = (goal.at.deliver_counted_word-requires-clause-full c).After-word_quotient_of in
    let s = c.args.shape in
    let b = moved_close c.args.x.significand c.args.y.significand s.precision c.places_up-up.result (close state) in
    odd_quotient_long c.word_quotient_of.result (c.args.x.significand * 2 ^ c.places_up-up.result)
    c.args.y.significand (s.precision + 1)
    (normal_some s c.args.y.significand c.args.y.exponent c.requires.normal.right) b.0 (quotient state)

pub returns-clause-delivered : goal.returns-clause-delivered
returns-clause-delivered c =
    let state = (goal.at.returns-clause-delivered c).After-word_quotient_of in
    let s = c.args.shape in
    let m = c.args.x.significand in
    let n = c.args.y.significand in
    let up = c.places_up-up.result in
    let places = s.precision + 1 in
    let some = normal_some s c.args.y.significand c.args.y.exponent c.requires.normal.right in
    let x = normal_near s c.args.x.significand c.args.x.exponent c.requires.normal.left in
    let y = normal_near s c.args.y.significand c.args.y.exponent c.requires.normal.right in
    let v = rw (x.word, y.word) at c.quotient_exponent.ensures.value in
    let w : to_z w32 (of_z w32 c.quotient_exponent.result) ≡ c.quotient_exponent.result =
    to_z-of_z w32 c.quotient_exponent.result (record { sfits = c.quotient_exponent.type_inv }) in
    let b = moved_close m n s.precision up (close state) in
    let q = subst (λ (k : ℕ). IsRoundedToOdd (2 ^ places) k (m * 2 ^ up * 2 ^ places) n) (sym (quotient state))
    (quotient_to_odd (2 ^ places) (m * 2 ^ up * 2 ^ places) n some (quotient_long (m * 2 ^ up) n places some b.0)) in
    let r = subst (λ (k : ℕ). IsRoundedToOdd (2 ^ places) c.word_quotient_of.result k n) (moved_places m up places) q in
    let g = rw w at c.deliver_counted_word.ensures.delivered in
    let d = g (quanta_at s.min_exp c.args.x.significand c.args.x.exponent * 2 ^ (format_at s).scale)
    (quanta_at s.min_exp c.args.y.significand c.args.y.exponent)
    (quanta_some s c.args.y.significand c.args.y.exponent c.requires.normal.right)
    (odd_quotient_is s c.args.x.exponent c.args.y.exponent c.quotient_exponent.result (places + up) (2 ^ places)
    c.word_quotient_of.result m n c.requires.normal.left c.requires.normal.right v r) in
    subst (λ (b : Bool). IsDelivered (format_at s) c.args.round b
    (quanta_at s.min_exp c.args.x.significand c.args.x.exponent * 2 ^ (format_at s).scale)
    (quanta_at s.min_exp c.args.y.significand c.args.y.exponent) (datum_at s c.deliver_counted_word.result.value)
    (bits_of c.deliver_counted_word.result.status)) c.product_sign.ensures d
