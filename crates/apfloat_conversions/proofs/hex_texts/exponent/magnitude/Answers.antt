use Rattle.std.proofs.Common.{List, ℕ, sym}
use Rattle.apfloat_conversions.specs.hex_texts.Saturation.{IsCounted}
use Rattle.apfloat_model.proofs.general.ListLaws.{parted}
use Rattle.apfloat_conversions.proofs.hex_texts_lemmas.Saturations.{count_goes}
use Rattle.apfloat_conversions.proofs.hex_texts.exponent.magnitude.Goals as goal

pub loop-left-preserved : goal.loop-left-preserved
loop-left-preserved c =
    let i = parted (λ (l : List ℕ). IsCounted c.args.digits.now l c.loop-left.number) c.loop-left.left.now
    c.in-len1-up.len_at_least c.loop-left.invariant in
    count_goes c.args.digits.now _ _ c.loop-left.number c.with_digit-number.result (sym c.if-not-is_decimal.ensures)
    (rw c.digit_value.ensures.value at c.with_digit-number.ensures.saturated) c.with_digit-number.ensures.fits i
