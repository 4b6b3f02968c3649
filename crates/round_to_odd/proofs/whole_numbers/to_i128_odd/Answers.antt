use Rattle.std.proofs.Common.{◌≡◌, ℕ, ◌%◌, ap, sym, ◌∙◌, arith}
use Rattle.std.specs.Prelude.{unsigned_abs}
use Rattle.std.proofs.lemmas.Int.{ints}
use Rattle.apfloat_ieee.specs.FlaggedTypes.{format_of}
use Rattle.round_to_odd.proofs.Wholes.{signed_toward, signed_outward}
use Rattle.round_to_odd.proofs.whole_numbers.to_i128_odd.Goals as goal

pub returns-then-unsigned_abs-eq1 : goal.returns-then-unsigned_abs-eq1
returns-then-unsigned_abs-eq1 g c =
    let size : c.unsigned_abs.result ≡ unsigned_abs c.to_i128_r-truncated.result.value =
    omega (arith, ints, c.unsigned_abs.ensures.value) in
    signed_toward (format_of g.S.Flagged) c.args.width c.args.x _ _ _ c.to_i128_r-truncated.ensures
    (ap (λ (n : ℕ). n % 2) (sym size) ∙ c.if-unsigned_abs-eq1.true)

pub returns-else-unsigned_abs-eq1 : goal.returns-else-unsigned_abs-eq1
returns-else-unsigned_abs-eq1 g c =
    let size : c.unsigned_abs.result ≡ unsigned_abs c.to_i128_r-truncated.result.value =
    omega (arith, ints, c.unsigned_abs.ensures.value) in
    let away = rw c.outward.ensures at c.to_i128_r.ensures in
    signed_outward (format_of g.S.Flagged) c.args.width c.args.x _ _ _ _ _ _ c.to_i128_r-truncated.ensures away
    (λ k. c.if-unsigned_abs-eq1.false (ap (λ (n : ℕ). n % 2) size ∙ k))
