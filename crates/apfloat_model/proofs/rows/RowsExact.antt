-- Worked rows of what needs no rounding: NaNs and infinities, remainders, integers out, neighbours, exponents, order.
-- See `Rows`.
use Rattle.std.proofs.Common.{◌≡◌, ◌^◌, true, false, refl, neg_ℤ, pos, lit<, lit≤, arith}
use Rattle.std.specs.Prelude.{Some, None}
use Rattle.apfloat_model.specs.declared.kinds.Round.{Round, TheVariants.NearestTiesToEven, TheVariants.TowardNegative}
use Rattle.apfloat_model.specs.{declared.kinds.Round.TheVariants.TowardZero, rounding.Rounding.ok_bits}
use Rattle.apfloat_model.specs.{rounding.Rounding.inexact_bit, rounding.Negation.negated, formats.Nan.invalid_bit}
use Rattle.apfloat_model.specs.arithmetic.{Sums.IsSum, Sums.IsDifference, Products.IsProduct, Quotients.IsQuotient}
use Rattle.apfloat_model.specs.arithmetic.{Quotients.div_by_zero_bit, FusedSums.IsFusedSum, Conversions.IsConversion}
use Rattle.apfloat_model.specs.arithmetic.Remainders.{IsTruncatedRemainder, IsNearestRemainder}
use Rattle.apfloat_model.specs.arithmetic.{NextUp.IsNextUp, Exponents.IsIlogb, Exponents.IsFrexp}
use Rattle.apfloat_model.specs.{arithmetic.Exponents.IsExactInverse, whole_numbers.WholeNumbers.IsRoundToIntegral}
use Rattle.apfloat_model.specs.whole_numbers.WholeNumbersOut.{IsToUnsigned, IsToSigned}
use Rattle.apfloat_model.specs.order.Order.{min_num, max_num, minimum, maximum}
use Rattle.apfloat_model.proofs.rows.RowsIn.{half, single, e4m3fn, e4m3fnuz, in_half, in_single, in_e4m3fn, in_e4m3fnuz}
use Rattle.apfloat_model.proofs.rows.RowsIn.{answer, whole, converted}

-- ---- NaNs

-- a signaling operand is made quiet, and the operation is invalid
signaling_made_quiet : (mode : Round) → IsSum half mode (in_half 0x7d00) (in_half 0x3c00) (in_half 0x7f00) invalid_bit
signaling_made_quiet mode = answer

-- the left NaN is the result, but either operand can signal
left_of_two_nans : (mode : Round) → IsSum half mode (in_half 0x7e01) (in_half 0x7d00) (in_half 0x7e01) invalid_bit
left_of_two_nans mode = answer

-- an infinity minus itself is invalid, and so is an infinity times zero
infinities_of_one_sign : IsDifference half NearestTiesToEven (in_half 0x7c00) (in_half 0x7c00) (in_half 0x7e00)
    invalid_bit
infinities_of_one_sign = answer

infinity_times_zero : IsProduct half NearestTiesToEven (in_half 0x7c00) (in_half 0x0000) (in_half 0x7e00) invalid_bit
infinity_times_zero = answer

-- an infinity times zero is invalid even in a fused sum whose addend is a NaN
invalid_product : IsFusedSum half NearestTiesToEven (in_half 0x7c00) (in_half 0x0000) (in_half 0x7e01)
    (in_half 0x7e00) invalid_bit
invalid_product = answer

-- the only NaN of a format is not negated
one_nan_is_not_negated : negated e4m3fnuz.nonfinite (in_e4m3fnuz 0x80) ≡ in_e4m3fnuz 0x80
one_nan_is_not_negated = refl

-- ---- conversions

-- a payload keeps its first bits
nan_converted : IsConversion single half NearestTiesToEven (in_single 0x7fa00000) (in_half 0x7f00) invalid_bit false
nan_converted = converted

-- if a lower bit is set, information is lost
nan_with_loss : IsConversion single half NearestTiesToEven (in_single 0x7fc00001) (in_half 0x7e00) ok_bits true
nan_with_loss = converted

-- an infinity becomes a NaN in a format without infinities
infinity_with_loss : IsConversion single e4m3fn NearestTiesToEven (in_single 0x7f800000) (in_e4m3fn 0x7f)
    inexact_bit true
infinity_with_loss = converted

-- -0 loses its sign in a format without -0
zero_sign_lost : IsConversion half e4m3fnuz NearestTiesToEven (in_half 0x8000) (in_e4m3fnuz 0x00) inexact_bit true
zero_sign_lost = converted

-- ---- division by zero, in each of the three kinds of formats

-- 1 divided by -0 is the negative infinity
one_by_minus_zero : IsQuotient half NearestTiesToEven (in_half 0x3c00) (in_half 0x8000) (in_half 0xfc00) div_by_zero_bit
one_by_minus_zero = answer

-- without infinities it is the NaN of that sign, or the only NaN
one_by_minus_zero_in_e4m3fn : (mode : Round)
    → IsQuotient e4m3fn mode (in_e4m3fn 0x38) (in_e4m3fn 0x80) (in_e4m3fn 0xff) div_by_zero_bit
one_by_minus_zero_in_e4m3fn mode = answer

minus_one_by_zero_in_e4m3fnuz : IsQuotient e4m3fnuz NearestTiesToEven (in_e4m3fnuz 0xc0) (in_e4m3fnuz 0x00)
    (in_e4m3fnuz 0x80) div_by_zero_bit
minus_one_by_zero_in_e4m3fnuz = answer

-- an infinity divided by zero is exact
infinity_by_zero : IsQuotient half NearestTiesToEven (in_half 0xfc00) (in_half 0x0000) (in_half 0xfc00) ok_bits
infinity_by_zero = answer

-- ---- remainders

-- -4 divided by 2: a zero keeps the sign
truncated_remainder_of_zero : IsTruncatedRemainder half (in_half 0xc400) (in_half 0x4000) (in_half 0x8000) ok_bits
truncated_remainder_of_zero = answer

-- 5 / 2 is 2.5: the even quotient is 2, which leaves 1
nearest_remainder_of_tie : IsNearestRemainder half (in_half 0x4500) (in_half 0x4000) (in_half 0x3c00) ok_bits
nearest_remainder_of_tie = answer

-- 7 / 2 is 3.5: the even quotient is 4, which leaves -1
nearest_remainder_of_next_tie : IsNearestRemainder half (in_half 0x4700) (in_half 0x4000) (in_half 0xbc00) ok_bits
nearest_remainder_of_next_tie = answer

-- 448 / 1.875 is 238.9: the quotient is 238 truncated toward zero, 239 to nearest
truncated_remainder : IsTruncatedRemainder e4m3fn (in_e4m3fn 0x7e) (in_e4m3fn 0x3f) (in_e4m3fn 0x3e) ok_bits
truncated_remainder = answer

nearest_remainder : IsNearestRemainder e4m3fn (in_e4m3fn 0x7e) (in_e4m3fn 0x3f) (in_e4m3fn 0xa0) ok_bits
nearest_remainder = answer

-- ---- rounding to an integer

-- 1.5 and 2.5
integral_of_one_and_a_half : IsRoundToIntegral half NearestTiesToEven (in_half 0x3e00) (in_half 0x4000) inexact_bit
integral_of_one_and_a_half = answer

integral_of_two_and_a_half : IsRoundToIntegral half NearestTiesToEven (in_half 0x4100) (in_half 0x4000) inexact_bit
integral_of_two_and_a_half = answer

-- -0.5 becomes -0
integral_of_minus_one_half : IsRoundToIntegral half TowardZero (in_half 0xb800) (in_half 0x8000) inexact_bit
integral_of_minus_one_half = answer

-- ---- integers out

-- 255.5 in eight bits: 256 is out of range
out_of_range : IsToUnsigned single NearestTiesToEven 8 (in_single 0x437f8000) 255 invalid_bit false
out_of_range = whole

-- -0.5 is truncated to 0, but -1 is out of range
minus_one_half_out : IsToUnsigned single TowardZero 8 (in_single 0xbf000000) 0 inexact_bit false
minus_one_half_out = whole

minus_one_out : IsToUnsigned single TowardZero 8 (in_single 0xbf800000) 0 invalid_bit false
minus_one_out = whole

-- -2, -2.5 and -3 in two signed bits
minus_two_out : IsToSigned half NearestTiesToEven 2 (in_half 0xc000) (neg_ℤ (pos 2)) ok_bits true
minus_two_out = whole

minus_two_and_a_half_out : IsToSigned half NearestTiesToEven 2 (in_half 0xc100) (neg_ℤ (pos 2)) inexact_bit false
minus_two_and_a_half_out = whole

minus_three_out : IsToSigned half NearestTiesToEven 2 (in_half 0xc200) (neg_ℤ (pos 2)) invalid_bit false
minus_three_out = whole

-- -0 is not an integer
minus_zero_out : IsToSigned single TowardNegative 8 (in_single 0x80000000) (pos 0) ok_bits false
minus_zero_out = whole

-- ---- the next value up

-- above the largest value is the infinity, or the NaN in a format without infinities
next_of_largest : IsNextUp half (in_half 0x7bff) (in_half 0x7c00) ok_bits
next_of_largest = answer

next_of_largest_in_e4m3fnuz : IsNextUp e4m3fnuz (in_e4m3fnuz 0x7f) (in_e4m3fnuz 0x80) ok_bits
next_of_largest_in_e4m3fnuz = answer

-- above -0 is the least positive value
next_of_minus_zero : IsNextUp half (in_half 0x8000) (in_half 0x0001) ok_bits
next_of_minus_zero = answer

-- above the negative infinity is the least finite value
next_of_minus_infinity : IsNextUp half (in_half 0xfc00) (in_half 0xfbff) ok_bits
next_of_minus_infinity = answer

-- a signaling NaN is made quiet
next_of_signaling : IsNextUp half (in_half 0xfd00) (in_half 0xfe00) invalid_bit
next_of_signaling = answer

-- ---- exponents

-- the least positive value of half precision is 2 ^ -24
logarithm_of_the_least : IsIlogb half (in_half 0x0001) (neg_ℤ (pos 24))
logarithm_of_the_least = record { place = 0; low = lit≤ tt; high = lit< tt; is = refl }

-- the greatest denormal is just below 2 ^ -14
logarithm_of_the_greatest_denormal : IsIlogb half (in_half 0x03ff) (neg_ℤ (pos 15))
logarithm_of_the_greatest_denormal = record { place = 9; low = lit≤ tt; high = lit< tt; is = refl }

-- 2 ^ -24 is 0.5 times 2 ^ -23
fraction_of_the_least : IsFrexp half (in_half 0x0001) (in_half 0x3800) (neg_ℤ (pos 23))
fraction_of_the_least = record { fraction = 2 ^ 23; low = lit≤ tt; high = lit< tt; same = refl; is = refl }

-- the inverse of 2 ^ 14 is the smallest normal value
inverse_of_a_power : IsExactInverse half (in_half 0x7400) (Some (in_half 0x0400))
inverse_of_a_power =
    (1024, record { normal = lit≤ tt; inverse_normal = lit≤ tt; within = lit≤ tt; product = refl }, refl)

-- the inverse of 2 ^ 15 would be denormal
no_inverse_of_a_power : IsExactInverse half (in_half 0x7800) None
no_inverse_of_a_power inverse is = let same = is.product in let normal = is.inverse_normal in omega arith

-- ---- minima and maxima

-- +0 and -0 are equal, and the first operand is returned; `minimum` puts -0 below +0
least_of_zeros : min_num (in_half 0x0000) (in_half 0x8000) ≡ in_half 0x0000
least_of_zeros = refl

minimum_of_zeros : minimum (in_half 0x0000) (in_half 0x8000) ≡ in_half 0x8000
minimum_of_zeros = refl

-- the operand that is not a NaN is returned, but `maximum` returns the NaN
greatest_with_nan : max_num (in_half 0x7d00) (in_half 0x3c00) ≡ in_half 0x3c00
greatest_with_nan = refl

maximum_beside_nan : maximum (in_half 0x7d00) (in_half 0x3c00) ≡ in_half 0x7d00
maximum_beside_nan = refl
