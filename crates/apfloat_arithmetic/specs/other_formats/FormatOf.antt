-- Operations that deliver in another format g (IEEE 754-2019 5.4.1, formatOf): the exact result of the operands is
-- rounded once, in g.
use Rattle.std.specs.Prelude.{ℕ, ◌+◌, ◌*◌, ◌^◌, Bool, ◌||◌, eqb, ℤ, pos, ◌+ℤ◌, ◌*ℤ◌, if◌then◌else◌}
use Rattle.apfloat_model.specs.{rounding.Answer.IsAnswer, arithmetic.Exact.same_sign, arithmetic.Exact.product_sign}
use Rattle.apfloat_model.specs.declared.kinds.Round.{Round}
use Rattle.apfloat_model.specs.formats.{Format.Format, Datum.Datum, Constants.infinity_of, Nan.invalid_if}
use Rattle.apfloat_model.specs.rounding.Outcome.{Outcome, settled, rounded, totalled, exactly, invalid, Yields}
use Rattle.apfloat_model.specs.rounding.Rounding.{ok_bits, inexact_bit, signed_quanta}
use Rattle.apfloat_model.specs.arithmetic.{Exact.signed, Quotients.div_by_zero_bit, Conversions.has_infinities}
use Rattle.apfloat_arithmetic.specs.other_formats.Extended.{Extended, number, infinity, not_number, seen, signals}
use Rattle.apfloat_arithmetic.specs.other_formats.Extended.{opposite}

-- ---- results

-- a NaN, as conversion delivers it
abbrev pub nan_to : Bool → Datum → Outcome
nan_to signaling given = settled given (invalid_if signaling)

-- an infinity, as conversion delivers it
abbrev pub infinity_to : Format → Bool → Outcome
infinity_to g negative =
    settled (infinity_of g negative) (if has_infinities g.nonfinite then ok_bits else inexact_bit)

-- exact * 2 ^ -places, the total of two numbers with these signs, in quanta of g
abbrev pub total_to : Format → Bool → Bool → ℤ → ℕ → Outcome
total_to g left right exact places = totalled left right (exact *ℤ pos (2 ^ g.scale)) (2 ^ places)

-- what the first two yield in every mode
abbrev pub IsNan : Bool → Datum → Datum → ℕ → Type 0
IsNan signaling given value status = IsAnswer given (invalid_if signaling) value status

abbrev pub IsInfinity : Format → Bool → Datum → ℕ → Type 0
IsInfinity g negative value status =
    IsAnswer (infinity_of g negative) (if has_infinities g.nonfinite then ok_bits else inexact_bit) value status

-- ---- operations, on values without a format

abbrev pub sum_of : Format → Extended → Extended → Outcome
sum_of g (not_number s d) y = nan_to (s || signals y) d
sum_of g x (not_number t d) = nan_to t d
sum_of g (infinity b) (infinity c) = if same_sign b c then infinity_to g b else invalid g
sum_of g (infinity b) (number c n t) = infinity_to g b
sum_of g (number b m s) (infinity c) = infinity_to g c
sum_of g (number b m s) (number c n t) = total_to g b c (signed b (m * 2 ^ t) +ℤ signed c (n * 2 ^ s)) (s + t)

abbrev pub IsSumOf : Format → Round → Extended → Extended → Datum → ℕ → Type 0
IsSumOf g mode x y value status = Yields g mode (sum_of g x y) value status

-- the product, with that sign, of `amount` and an infinity
abbrev pub number_by_infinity : Format → Bool → ℕ → Outcome
number_by_infinity g negative amount = if eqb amount 0 then invalid g else infinity_to g negative

abbrev pub product_of : Format → Extended → Extended → Outcome
product_of g (not_number s d) y = nan_to (s || signals y) d
product_of g x (not_number t d) = nan_to t d
product_of g (infinity b) (infinity c) = infinity_to g (product_sign b c)
product_of g (infinity b) (number c n t) = number_by_infinity g (product_sign b c) n
product_of g (number b m s) (infinity c) = number_by_infinity g (product_sign b c) m
product_of g (number b m s) (number c n t) = rounded (product_sign b c) (m * n * 2 ^ g.scale) (2 ^ (s + t))

abbrev pub IsProductOf : Format → Round → Extended → Extended → Datum → ℕ → Type 0
IsProductOf g mode x y value status = Yields g mode (product_of g x y) value status

abbrev pub quotient_of : Format → Extended → Extended → Outcome
quotient_of g (not_number s d) y = nan_to (s || signals y) d
quotient_of g x (not_number t d) = nan_to t d
quotient_of g (infinity b) (infinity c) = invalid g
quotient_of g (infinity b) (number c n t) = infinity_to g (product_sign b c)
quotient_of g (number b m s) (infinity c) = exactly (signed_quanta g.nonfinite (product_sign b c) 0)
quotient_of g (number b m s) (number c n t) =
    if eqb n 0
    then (if eqb m 0 then invalid g else settled (infinity_of g (product_sign b c)) div_by_zero_bit)
    else rounded (product_sign b c) (m * 2 ^ (t + g.scale)) (n * 2 ^ s)

abbrev pub IsQuotientOf : Format → Round → Extended → Extended → Datum → ℕ → Type 0
IsQuotientOf g mode x y value status = Yields g mode (quotient_of g x y) value status

-- the product, with that sign, of `amount` and an infinity, plus z
abbrev pub sum_with_infinity : Format → Bool → ℕ → Extended → Outcome
sum_with_infinity g negative amount z = if eqb amount 0 then invalid g else sum_of g (infinity negative) z

-- the exact product plus the addend; the product of a zero and an infinity is invalid, whatever the addend
abbrev pub fused_sum_of : Format → Extended → Extended → Extended → Outcome
fused_sum_of g (not_number s d) y z = sum_of g (not_number (s || signals y) d) z
fused_sum_of g x (not_number t d) z = sum_of g (not_number t d) z
fused_sum_of g (infinity b) (infinity c) z = sum_of g (infinity (product_sign b c)) z
fused_sum_of g (infinity b) (number c n t) z = sum_with_infinity g (product_sign b c) n z
fused_sum_of g (number b m s) (infinity c) z = sum_with_infinity g (product_sign b c) m z
fused_sum_of g (number b m s) (number c n t) z = sum_of g (number (product_sign b c) (m * n) (s + t)) z

abbrev pub IsFusedSumOf : Format → Round → Extended → Extended → Extended → Datum → ℕ → Type 0
IsFusedSumOf g mode x y z value status = Yields g mode (fused_sum_of g x y z) value status

-- ---- operations on data of f, h and k, in g

abbrev pub IsSumTo : Format → Format → Format → Round → Datum → Datum → Datum → ℕ → Type 0
IsSumTo f h g mode x y value status = IsSumOf g mode (seen f g x) (seen h g y) value status

abbrev pub IsDifferenceTo : Format → Format → Format → Round → Datum → Datum → Datum → ℕ → Type 0
IsDifferenceTo f h g mode x y value status = IsSumOf g mode (seen f g x) (opposite (seen h g y)) value status

abbrev pub IsProductTo : Format → Format → Format → Round → Datum → Datum → Datum → ℕ → Type 0
IsProductTo f h g mode x y value status = IsProductOf g mode (seen f g x) (seen h g y) value status

abbrev pub IsQuotientTo : Format → Format → Format → Round → Datum → Datum → Datum → ℕ → Type 0
IsQuotientTo f h g mode x y value status = IsQuotientOf g mode (seen f g x) (seen h g y) value status

abbrev pub IsFusedSumTo : Format → Format → Format → Format → Round → Datum → Datum → Datum → Datum → ℕ → Type 0
IsFusedSumTo f h k g mode x y z value status =
    IsFusedSumOf g mode (seen f g x) (seen h g y) (seen k g z) value status
