-- A value has one number of digits.
use Rattle.std.proofs.Common.{◌≡◌, ℕ, ◌+◌, ◌-◌, ◌*◌, ◌^◌, ◌<◌, ◌≤◌, zero, suc, false}
use Rattle.std.proofs.Common.{refl, sym, ap, ◌∙◌, arith, Option, Some, None}
use Rattle.std.proofs.{Math.Nat.mul-pos, lemmas.Bool.false≢true, lemmas.Nat.pow-add, lemmas.Nat.pow_pos}
use Rattle.apfloat_model.specs.{arithmetic.Exact.up, arithmetic.Exact.down, formats.Datum.Datum, formats.Format.Format}
use Rattle.apfloat_model.specs.order.Classes.{is_finite_non_zero_category, quanta_of}
use Rattle.apfloat_decimals.specs.ExactDecimals.{IsExactOf}
use Rattle.apfloat_decimals.proofs.digits.ExactDecimals.{one_exact}
use Rattle.apfloat_decimals.proofs.shortest_decimals.{DecimalPlaces.ten_pos, OneShortest.same_count}
use Rattle.apfloat_digits.specs.decimal.DigitCounts.{GivesDigitCount, IsDigitCount}

-- the digits that are counted are those of the exact decimal
exact_decimal : (f : Format) (quanta count : ℕ) → (x : IsDigitCount f quanta count)
    → IsExactOf f false quanta (record { negative = false; digits = x.digits; exponent = x.exponent })
exact_decimal f quanta count x =
    let last = x.last in
    let some : 0 < x.digits = omega (arith, last) in
    let unit : 0 < 10 ^ up x.exponent * 2 ^ f.scale = mul-pos (ten_pos (up x.exponent)) (pow_pos f.scale) in
    let more : 0 < x.digits * (10 ^ up x.exponent * 2 ^ f.scale) = mul-pos some unit in
    let number : quanta * 10 ^ down x.exponent ≡ x.digits * 10 ^ up x.exponent * 2 ^ f.scale = x.number in
    record {
      sign = refl;
      zero = λ z.
          let none : quanta * 10 ^ down x.exponent ≡ 0 * 10 ^ down x.exponent =
          ap (λ (q : ℕ). q * 10 ^ down x.exponent) z in
          absurd (omega (arith, more, number, none));
      number = x.number;
      last = λ p. x.last;
    }

count_some : (count digits : ℕ) → 10 ^ (count - 1) ≤ digits → digits < 10 ^ count → 0 < count
count_some zero digits full fits = absurd (omega (arith, full, fits))
count_some (suc n) digits full fits = omega arith

-- that many digits are not fewer
ten_times : (count digits : ℕ) → 10 ^ (count - 1) ≤ digits → digits < 10 ^ count → 10 ^ count ≤ 10 * digits
ten_times count digits full fits =
    let at : count ≡ (count - 1) + 1 = omega (arith, count_some count digits full fits) in
    let ten : 10 ^ ((count - 1) + 1) ≡ 10 ^ (count - 1) * 10 = pow-add 10 (count - 1) 1 in
    let e : 10 ^ count ≡ 10 ^ (count - 1) * 10 = ap (λ (n : ℕ). 10 ^ n) at ∙ ten in
    omega (arith, e, full)

same_digits_same_count : (count other n o : ℕ) → n ≡ o → 10 ^ (count - 1) ≤ n → n < 10 ^ count
    → 10 ^ (other - 1) ≤ o → o < 10 ^ other → count ≡ other
same_digits_same_count count other n o e full fits other_full other_fits =
    let b = ten_times other o other_full other_fits in
    same_count count other n o fits other_fits (omega (arith, ten_times count n full fits, e)) (omega (arith, b, e))

one_count : (f : Format) (quanta count other : ℕ) → IsDigitCount f quanta count → IsDigitCount f quanta other
    → count ≡ other
one_count f quanta count other x y =
    let same = one_exact f false quanta (record { negative = false; digits = x.digits; exponent = x.exponent })
    (record { negative = false; digits = y.digits; exponent = y.exponent }) (exact_decimal f quanta count x)
    (exact_decimal f quanta other y) in
    same_digits_same_count count other x.digits y.digits same.1 x.full x.fits y.full y.fits

pub one_answer : (f : Format) (x : Datum) (answer other : Option ℕ) → GivesDigitCount f x answer
    → GivesDigitCount f x other → answer ≡ other
one_answer f x None None h k = refl
one_answer f x None (Some b) h k = absurd (false≢true (sym h ∙ ap is_finite_non_zero_category k.0))
one_answer f x (Some a) None h k = absurd (false≢true (sym k ∙ ap is_finite_non_zero_category h.0))
one_answer f x (Some a) (Some b) h k = ap Some (one_count f (quanta_of x) a b h.1 k.1)
