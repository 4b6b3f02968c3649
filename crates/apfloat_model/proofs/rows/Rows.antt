-- Worked rows of rounded results: known answers of the model. Operands and values are given by
-- their bits in small formats. `Once` proves that no other value and no other status is a result.
use Rattle.std.proofs.Common.{◌≡◌, ℕ, ◌+◌, true, false, refl, neg_ℤ, pos}
use Rattle.apfloat_model.specs.declared.kinds.Round.{Round, TheVariants.NearestTiesToEven, TheVariants.TowardPositive}
use Rattle.apfloat_model.specs.declared.kinds.Round.TheVariants.{TowardNegative, TowardZero, NearestTiesToAway}
use Rattle.apfloat_model.specs.formats.Datum.{Datum}
use Rattle.apfloat_model.specs.rounding.Rounding.{ok_bits, inexact_bit, overflow_bit, underflow_bit}
use Rattle.apfloat_model.specs.arithmetic.{Sums.IsSum, Sums.IsDifference, Products.IsProduct, Quotients.IsQuotient}
use Rattle.apfloat_model.specs.arithmetic.{FusedSums.IsFusedSum, Scaling.IsScaling, Conversions.IsConversion}
use Rattle.apfloat_model.specs.whole_numbers.WholeNumbers.{IsFromUnsigned, IsFromSigned}
use Rattle.apfloat_model.proofs.{Once.from_unsigned_once, rows.RowsIn.half, rows.RowsIn.single}
use Rattle.apfloat_model.proofs.rows.RowsIn.{e5m2, e4m3fn, e4m3fnuz, half_tiny_before, half_ieee, half_ieee_before}
use Rattle.apfloat_model.proofs.rows.RowsIn.{in_half, in_single, in_e5m2, in_e4m3fn, in_e4m3fnuz, rounded}

-- ---- integers in

-- 464 is a value of half precision
half_of_464 : (mode : Round) → IsFromUnsigned half mode 464 (in_half 0x5f40) ok_bits
half_of_464 mode = rounded 1856 22 refl refl refl

-- no other value and no other status; for each row below, this follows in the same way
only_half_of_464 : (mode : Round) (value : Datum) (status : ℕ) → IsFromUnsigned half mode 464 value status
    → (value ≡ in_half 0x5f40) × (status ≡ ok_bits)
only_half_of_464 mode value status is =
    from_unsigned_once half mode 464 value (in_half 0x5f40) status ok_bits is (half_of_464 mode)

-- 2049 is halfway between 2048 and 2050
tie_to_even_of_2049 : IsFromUnsigned half NearestTiesToEven 2049 (in_half 0x6800) inexact_bit
tie_to_even_of_2049 = rounded 1024 25 refl refl refl

-- 2051 is halfway between 2050 and 2052
tie_to_even_of_2051 : IsFromUnsigned half NearestTiesToEven 2051 (in_half 0x6802) inexact_bit
tie_to_even_of_2051 = rounded 1025 25 refl refl refl

-- a tie to away takes the greater magnitude
tie_to_away_of_2049 : IsFromUnsigned half NearestTiesToAway 2049 (in_half 0x6801) inexact_bit
tie_to_away_of_2049 = rounded 1024 25 refl refl refl

-- a directed mode depends on the sign
upward_of_minus_2049 : IsFromSigned half TowardPositive (neg_ℤ (pos 2049)) (in_half 0xe800) inexact_bit
upward_of_minus_2049 = rounded 1024 25 refl refl refl

downward_of_minus_2049 : IsFromSigned half TowardNegative (neg_ℤ (pos 2049)) (in_half 0xe801) inexact_bit
downward_of_minus_2049 = rounded 1024 25 refl refl refl

-- ---- past the largest value, in each of the three kinds of formats

-- an infinity: 65520 is halfway between 65504, the largest value, and 65536
overflow_of_half : IsFromUnsigned half NearestTiesToEven 65520 (in_half 0x7c00) (overflow_bit + inexact_bit)
overflow_of_half = rounded 2047 29 refl refl refl

-- downward the largest value is kept
kept_at_the_largest_of_half : IsFromUnsigned half TowardNegative 65520 (in_half 0x7bff) inexact_bit
kept_at_the_largest_of_half = rounded 2047 29 refl refl refl

-- without infinities, the NaN of the sign: 464 is halfway between 448, the largest value, and 480
tie_at_the_largest_of_e4m3fn : IsFromUnsigned e4m3fn NearestTiesToEven 464 (in_e4m3fn 0x7e) inexact_bit
tie_at_the_largest_of_e4m3fn = rounded 14 14 refl refl refl

-- 465 is nearer to 480
overflow_of_e4m3fn : IsFromUnsigned e4m3fn NearestTiesToEven 465 (in_e4m3fn 0x7f) (overflow_bit + inexact_bit)
overflow_of_e4m3fn = rounded 14 14 refl refl refl

-- with a single NaN, that NaN: 248 is halfway between 240, the largest value, and 256
largest_of_e4m3fnuz : IsFromUnsigned e4m3fnuz NearestTiesToEven 240 (in_e4m3fnuz 0x7f) ok_bits
largest_of_e4m3fnuz = rounded 15 14 refl refl refl

-- of these two, 256 is even
overflow_of_e4m3fnuz : IsFromUnsigned e4m3fnuz NearestTiesToEven 248 (in_e4m3fnuz 0x80) (overflow_bit + inexact_bit)
overflow_of_e4m3fnuz = rounded 15 14 refl refl refl

-- ---- sums and differences

-- 65504 + 16
sum_past_the_largest : IsSum half NearestTiesToEven (in_half 0x7bff) (in_half 0x4c00) (in_half 0x7c00)
    (overflow_bit + inexact_bit)
sum_past_the_largest = rounded 2047 29 refl refl refl

-- toward zero the largest value is kept
sum_kept_at_the_largest : IsSum half TowardZero (in_half 0x7bff) (in_half 0x4c00) (in_half 0x7bff) inexact_bit
sum_kept_at_the_largest = rounded 2047 29 refl refl refl

-- twice 65504 is past the largest value even if it is rounded toward zero, which the flags of the built-in formats do
-- not show
double_of_the_largest : IsSum half TowardZero (in_half 0x7bff) (in_half 0x7bff) (in_half 0x7bff) inexact_bit
double_of_the_largest = rounded 2047 30 refl refl refl

-- with the flags of IEEE 754-2019, it overflows
overflow_toward_zero : IsSum half_ieee TowardZero (in_half 0x7bff) (in_half 0x7bff) (in_half 0x7bff)
    (overflow_bit + inexact_bit)
overflow_toward_zero = rounded 2047 30 refl refl refl

-- 65504 + 16 toward zero is 65504, which is not past the largest value
no_overflow_toward_zero : IsSum half_ieee TowardZero (in_half 0x7bff) (in_half 0x4c00) (in_half 0x7bff) inexact_bit
no_overflow_toward_zero = rounded 2047 29 refl refl refl

-- 1 minus the least positive value
just_below_one : IsDifference half NearestTiesToEven (in_half 0x3c00) (in_half 0x0001) (in_half 0x3c00) inexact_bit
just_below_one = rounded 2047 13 refl refl refl

-- toward zero it is the value just below 1
just_below_one_cut : IsDifference half TowardZero (in_half 0x3c00) (in_half 0x0001) (in_half 0x3bff) inexact_bit
just_below_one_cut = rounded 2047 13 refl refl refl

-- 1 - 1: the mode decides the sign of an exact zero
zero_difference : IsDifference half NearestTiesToEven (in_half 0x3c00) (in_half 0x3c00) (in_half 0x0000) ok_bits
zero_difference = rounded 0 0 refl refl refl

-- downward it is -0
zero_difference_downward : IsDifference half TowardNegative (in_half 0x3c00) (in_half 0x3c00) (in_half 0x8000) ok_bits
zero_difference_downward = rounded 0 0 refl refl refl

-- downward it is +0 if the format has no -0
zero_difference_without_minus : IsDifference e4m3fnuz TowardNegative (in_e4m3fnuz 0x40) (in_e4m3fnuz 0x40)
    (in_e4m3fnuz 0x00) ok_bits
zero_difference_without_minus = rounded 0 0 refl refl refl

-- -0 + -0
sum_of_minus_zeros : (mode : Round) → IsSum half mode (in_half 0x8000) (in_half 0x8000) (in_half 0x8000) ok_bits
sum_of_minus_zeros mode = rounded 0 0 refl refl refl

-- ---- products, and what is tiny

-- half of the least positive value
underflow : IsProduct half NearestTiesToEven (in_half 0x0001) (in_half 0x3800) (in_half 0x0000)
    (underflow_bit + inexact_bit)
underflow = rounded 0 0 refl refl refl

-- upward it is the least positive value
underflow_upward : IsProduct half TowardPositive (in_half 0x0001) (in_half 0x3800) (in_half 0x0001)
    (underflow_bit + inexact_bit)
underflow_upward = rounded 0 0 refl refl refl

-- a product below the smallest normal value is rounded to it; after rounding it is not tiny
tiny_after_rounding : IsProduct half NearestTiesToEven (in_half 0x0400) (in_half 0x3bff) (in_half 0x0400) inexact_bit
tiny_after_rounding = rounded 1023 0 refl refl refl

-- if tininess is detected before rounding, it is tiny
tiny_before_rounding : IsProduct half_tiny_before NearestTiesToEven (in_half 0x0400) (in_half 0x3bff)
    (in_half 0x0400) (underflow_bit + inexact_bit)
tiny_before_rounding = rounded 1023 0 refl refl refl

-- rounded with an unbounded exponent it is exact, 2047 half quanta, and so it is below the smallest normal value
tiny_by_half_quanta : IsProduct half_ieee NearestTiesToEven (in_half 0x0400) (in_half 0x3bff) (in_half 0x0400)
    (underflow_bit + inexact_bit)
tiny_by_half_quanta = rounded 1023 0 refl refl refl

-- 1025 quanta times 2046 / 2048, nearer to 1024 than to 1023.5 quanta
normal_by_half_quanta : IsProduct half_ieee NearestTiesToEven (in_half 0x0401) (in_half 0x3bfe) (in_half 0x0400)
    inexact_bit
normal_by_half_quanta = rounded 1023 0 refl refl refl

-- toward zero it is rounded to 1023.5 quanta
tiny_toward_zero : IsProduct half_ieee TowardZero (in_half 0x0401) (in_half 0x3bfe) (in_half 0x03ff)
    (underflow_bit + inexact_bit)
tiny_toward_zero = rounded 1023 0 refl refl refl

-- if tininess is detected before rounding, it is tiny in each mode
tiny_before_with_ieee_flags : IsProduct half_ieee_before NearestTiesToEven (in_half 0x0401) (in_half 0x3bfe)
    (in_half 0x0400) (underflow_bit + inexact_bit)
tiny_before_with_ieee_flags = rounded 1023 0 refl refl refl

-- ---- quotients: 1 divided by 3

-- rounded to 11, to 3, and to 4 digits
third_in_half : IsQuotient half NearestTiesToEven (in_half 0x3c00) (in_half 0x4200) (in_half 0x3555) inexact_bit
third_in_half = rounded 1365 12 refl refl refl

third_in_e5m2 : IsQuotient e5m2 NearestTiesToEven (in_e5m2 0x3c) (in_e5m2 0x42) (in_e5m2 0x35) inexact_bit
third_in_e5m2 = rounded 5 12 refl refl refl

third_in_e4m3fn : IsQuotient e4m3fn NearestTiesToEven (in_e4m3fn 0x38) (in_e4m3fn 0x44) (in_e4m3fn 0x2b) inexact_bit
third_in_e4m3fn = rounded 10 4 refl refl refl

-- ---- fused sums

-- the product is slightly above the least positive value, which is subtracted: the rest is not lost
fused_rounded_once : IsFusedSum half TowardPositive (in_half 0x0d89) (in_half 0x09c8) (in_half 0x8001)
    (in_half 0x0001) (underflow_bit + inexact_bit)
fused_rounded_once = rounded 0 0 refl refl refl

-- downward it is rounded to 0
fused_rounded_once_to_zero : IsFusedSum half TowardNegative (in_half 0x0d89) (in_half 0x09c8) (in_half 0x8001)
    (in_half 0x0000) (underflow_bit + inexact_bit)
fused_rounded_once_to_zero = rounded 0 0 refl refl refl

-- the last digit of a square: (1 + u) * (1 + u) - (1 + 2 * u) is u * u
fused_exactly : (mode : Round)
    → IsFusedSum half mode (in_half 0x3c01) (in_half 0x3c01) (in_half 0xbc02) (in_half 0x0010) ok_bits
fused_exactly mode = rounded 16 0 refl refl refl

-- ---- conversions, which also say whether information was lost

-- -480, past the greatest magnitude, 448
conversion_kept_at_the_largest : IsConversion single e4m3fn TowardPositive (in_single 0xc3f00000) (in_e4m3fn 0xfe)
    inexact_bit true
conversion_kept_at_the_largest = record { is_delivered = rounded 15 14 refl refl refl; loses_is = refl }

-- downward it becomes the NaN of its sign
conversion_past_the_largest : IsConversion single e4m3fn TowardNegative (in_single 0xc3f00000) (in_e4m3fn 0xff)
    (overflow_bit + inexact_bit) true
conversion_past_the_largest = record { is_delivered = rounded 15 14 refl refl refl; loses_is = refl }

-- the least positive value of half precision is a normal value of single precision
conversion_of_the_least : (mode : Round)
    → IsConversion half single mode (in_half 0x0001) (in_single 0x33800000) ok_bits false
conversion_of_the_least mode = record { is_delivered = rounded 0x800000 102 refl refl refl; loses_is = refl }

-- ---- scaling: 3 quanta by half

-- 1.5 quanta is a tie, and 2 is even
scaled_tie_to_even : IsScaling half NearestTiesToEven (in_half 0x0003) (neg_ℤ (pos 1)) (in_half 0x0002)
scaled_tie_to_even = (_, rounded 1 0 refl refl refl)

-- toward zero it is 1
scaled_cut : IsScaling half TowardZero (in_half 0x0003) (neg_ℤ (pos 1)) (in_half 0x0001)
scaled_cut = (_, rounded 1 0 refl refl refl)
