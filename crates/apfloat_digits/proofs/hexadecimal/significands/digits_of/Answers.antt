use Rattle.std.proofs.Common.{◌≡◌, ℕ, ◌-◌, ◌*◌, ◌%◌, ◌^◌, ◌<◌, ◌≤◌, sym, ap, subst}
use Rattle.std.proofs.{Common.arith, Common.to_z, Common.of_z, Common.w32, Math.Nat.mod-eq_of_lt, lemmas.Int.to_z-of_z}
use Rattle.apfloat_model.specs.{arithmetic.Exponents.IsLogarithm, order.Classes.quanta_of}
use Rattle.apfloat_model.proofs.{arithmetic.Significands.significand_logarithm, formats.LawfulRanges.ranges_of}
use Rattle.apfloat_model.proofs.order.PositiveValues.{logarithm_within}
use Rattle.apfloat_ieee.specs.Types.{constants_of, format_of}
use Rattle.apfloat_decimals.proofs.numbers.QuantumPlaces.{number_exponent}
use Rattle.apfloat_digits.specs.hexadecimal.HexTexts.{IsNumberOf}
use Rattle.apfloat_digits.proofs.hexadecimal_lemmas.AlignedDigits.{IsWide, widened}
use Rattle.apfloat_digits.proofs.hexadecimal.significands.digits_of.{Given.Over, Goals.After-exponent_above}
use Rattle.apfloat_digits.proofs.hexadecimal.significands.digits_of.Goals as goal

-- the exponent of the first digit
record IsFirst (g : Over) (c : After-exponent_above g) : Type 0 where
  wide : IsWide (format_of g.S.Semantics) (quanta_of c.args.x)
      (c.number-number.result.significand * 2 ^ (125 - c.PRECISION-precision.result)) c.exponent_above.result
  log : IsLogarithm (format_of g.S.Semantics) (quanta_of c.args.x) c.exponent_above.result
  word : to_z w32 (of_z w32 c.exponent_above.result) ≡ c.exponent_above.result

first_is : (g : Over) → (state : After-exponent_above g) → IsFirst g state
first_is g c =
    let f = format_of g.S.Semantics in
    let law = g.S.Semantics.lawful.parameters in
    let number = c.number-number in
    let exact = number_exponent number.result.exponent number.ensures.within in
    let digits = c.PRECISION-precision.ensures in
    let place = rw (exact, digits) at c.exponent_above.ensures.place in
    record {
      wide = widened f (quanta_of c.args.x) number.result.significand _ number.result.exponent
          c.exponent_above.result law.precision_low law.precision_high number.ensures.fits number.ensures.full
          number.ensures.number place (ap (λ (p : ℕ). number.result.significand * 2 ^ (125 - p)) digits);
      log = significand_logarithm f (quanta_of c.args.x) number.result.significand f.precision number.result.exponent
          c.exponent_above.result (omega (arith, law.precision_low)) c.requires.some number.ensures.fits
          number.ensures.full number.ensures.number place;
      word = to_z-of_z w32 c.exponent_above.result (record { sfits = c.exponent_above.type_inv });
    }

-- no digit is shifted out
kept : (digits : ℕ) → digits < 2 ^ 125 → digits % 2 ^ 128 ≡ digits
kept digits high = let l : digits < 2 ^ 128 = omega (arith, high) in mod-eq_of_lt l

pub returns-clause-low : goal.returns-clause-low
returns-clause-low g c =
    let wide = (first_is g (goal.at.returns-clause-low g c).After-exponent_above).wide in
    subst (λ (n : ℕ). 2 ^ 124 ≤ n) (sym (kept _ wide.high)) wide.low

pub returns-clause-high : goal.returns-clause-high
returns-clause-high g c =
    let wide = (first_is g (goal.at.returns-clause-high g c).After-exponent_above).wide in
    subst (λ (n : ℕ). n < 2 ^ 125) (sym (kept _ wide.high)) wide.high

pub returns-clause-within : goal.returns-clause-within
returns-clause-within g c =
    let first = first_is g (goal.at.returns-clause-within g c).After-exponent_above in
    rw first.word (logarithm_within (format_of g.S.Semantics) (quanta_of c.args.x) c.exponent_above.result
    (ranges_of (constants_of g.S.Semantics) g.S.Semantics.lawful) c.requires.member.within first.log)

pub returns-clause-first : goal.returns-clause-first
returns-clause-first g c =
    let first = first_is g (goal.at.returns-clause-first g c).After-exponent_above in
    rw first.word first.log

pub returns-clause-number : goal.returns-clause-number
returns-clause-number g c =
    let first = first_is g (goal.at.returns-clause-number g c).After-exponent_above in
    rw first.word
    (subst (λ (n : ℕ). IsNumberOf (format_of g.S.Semantics) (quanta_of c.args.x) n 31 c.exponent_above.result)
    (sym (kept _ first.wide.high)) first.wide.number)
