use Rattle.std.proofs.Common.{◌≡◌, ℕ, List, arith, of_z, subst, to_z, w32}
use Rattle.std.proofs.lemmas.Int.{ints}
use Rattle.apfloat_decimals.specs.DecimalTexts.{IsDecimalText}
use Rattle.apfloat_decimals.proofs.texts.short_numerals.short_numeral.Goals as goal

pub returns-clause-spelled : goal.returns-clause-spelled
returns-clause-spelled c =
    let x = c.in_ok-number.number in
    let within = c.in_ok-number.ensures.within in
    let narrow : to_z w32 (of_z w32 x.exponent) ≡ x.exponent = omega (arith, ints) in
    record {
      sign = c.split_sign-negative.ensures.negative;
      is_text = rw narrow
          (subst (λ (body : List ℕ). IsDecimalText body x.digits x.exponent)
          c.split_sign-negative.ensures.rest c.in_ok-number.ensures.spelled);
    }
