-- Exact results: a signed integer divided by an integer.
use Rattle.std.specs.Prelude.{ℕ, zero, suc, ◌+◌, Bool, true, false, not, ℤ, pos, negsuc, neg_ℤ, if◌then◌else◌}
use Rattle.apfloat_model.specs.{formats.Format.Format, formats.Datum.Datum, rounding.Rounding.IsDelivered}
use Rattle.apfloat_model.specs.declared.kinds.Round.{Round, TheVariants.NearestTiesToEven, TheVariants.TowardPositive}
use Rattle.apfloat_model.specs.declared.kinds.Round.TheVariants.{TowardNegative, TowardZero, NearestTiesToAway}
pub use borrow.Author.Differences.{up, down}

abbrev pub same_sign : Bool → Bool → Bool
same_sign true right = right
same_sign false right = not right

-- the sign of a product or a quotient (IEEE 754-2019 6.3)
abbrev pub product_sign : Bool → Bool → Bool
product_sign left right = not (same_sign left right)

abbrev pub signed : Bool → ℕ → ℤ
signed true n = neg_ℤ (pos n)
signed false n = pos n

abbrev pub magnitude : ℤ → ℕ
magnitude z = up z + down z

-- true for minus; `of_zero` is the sign if the result is exactly zero
abbrev pub sign_of : Bool → ℤ → Bool
sign_of of_zero (pos zero) = of_zero
sign_of of_zero (pos (suc n)) = false
sign_of of_zero (negsuc n) = true

abbrev pub is_toward_negative : Round → Bool
is_toward_negative NearestTiesToEven = false
is_toward_negative TowardPositive = false
is_toward_negative TowardNegative = true
is_toward_negative TowardZero = false
is_toward_negative NearestTiesToAway = false

-- the sign of an exact zero as the sum of numbers with these signs (6.3)
abbrev pub zero_sum_sign : Round → Bool → Bool → Bool
zero_sum_sign mode left right = if same_sign left right then left else is_toward_negative mode

-- the exact result, which is exact / parts quanta, rounded once
abbrev pub IsRounded : Format → Round → Bool → ℤ → ℕ → Datum → ℕ → Type 0
IsRounded f mode of_zero exact parts value status =
    IsDelivered f mode (sign_of of_zero exact) (magnitude exact) parts value status
